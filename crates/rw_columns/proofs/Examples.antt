-- A graph whose first edge is removed, worked out.
use Rattle.std.proofs.Common.{◌≡◌, ◌∙◌, List, ℕ, zero, suc, ◌<◌, ◌≤◌, [], ◌∷◌, All, Contains, Some, true, length, slice_get, slice_index, refl, sym, ap, subst, inl, inr, arith}
use Rattle.std.proofs.lemmas.Option.{slice_get_within}
use Rattle.rw_schema.specs.declared.signature.ArrowEnds.{ArrowEnds}
use Rattle.rw_schema.specs.RowLists.{list_at}
use Rattle.rw_schema.specs.Signature.{Signature, source_of}
use Rattle.rw_spec.specs.Ascending.{ascends}
use Rattle.rw_spec.specs.Ends.{target_of}
use Rattle.rw_spec.specs.Instance.{Instance, Has, IsInstance, instance_of, look}
use Rattle.rw_spec.proofs.Look.{look_missing}
use Rattle.rw_spec.proofs.Sequences.{contains_none}
use Rattle.rw_spec.proofs.Signatures.{target_is}
use Rattle.std.proofs.lemmas.List.Elements.{All-cons, All-nil, Contains-append_left, Contains-append_cases}
use Rattle.rw_columns.specs.ChangedColumns.{FitsColumns}
use Rattle.rw_columns.specs.Changes.{ChangeLists, AreDifferences, beside, changed, staying_of}
use Rattle.rw_columns.specs.Columned.{Columned, instance_of_columns, next_of, preimage_of}
use Rattle.rw_columns.specs.inner.Examples.{without_first}
use Rattle.rw_columns.proofs.Committed.{stays_from}
use Rattle.rw_columns.proofs.MayCommit.{stays}

-- the ends of both arrows, source and target: from the edges, object 1, to the vertices, object 0
abbrev edge_end : ArrowEnds
edge_end = record { source = record { 0 = 1 }; target = record { 0 = 0 } }

-- graphs
abbrev graphs : Signature
graphs = record { objects = 2; arrows = edge_end ∷ edge_end ∷ []; attributes = []; equations = [] }

-- three vertices, and edges from 0 to 1, from 0 to 2 and from 2 to 1
abbrev graph : Instance
graph = instance_of graphs (record {
  names = (0 ∷ 1 ∷ 2 ∷ []) ∷ (0 ∷ 1 ∷ 2 ∷ []) ∷ [];
  arrows = (0 ∷ 0 ∷ 2 ∷ []) ∷ (1 ∷ 2 ∷ 1 ∷ []) ∷ [];
  cells = [];
  next = 3 ∷ 3 ∷ [];
})

-- edges 1 and 2 are left
edges_left : (changed graphs graph without_first).names 1 ≡ 1 ∷ 2 ∷ []
edges_left = refl

-- and of the edges that entered vertex 1 edge 2
entering_left : preimage_of graphs (changed graphs graph without_first) 1 1 ≡ 2 ∷ []
entering_left = refl

-- edge 3 comes, from vertex 1 to 0, edge 2 now leads to 0, and nothing goes
abbrev with_edge : ChangeLists
with_edge = record {
  removed = [] ∷ [] ∷ [];
  added = record { names = [] ∷ (3 ∷ []) ∷ []; arrows = (1 ∷ []) ∷ (0 ∷ []) ∷ []; cells = []; next = 3 ∷ 4 ∷ [] };
  rows = [] ∷ ((2, 0) ∷ []) ∷ [];
  cells = [];
}

-- both then enter vertex 0
entering_now : preimage_of graphs (changed graphs graph with_edge) 1 0 ≡ 2 ∷ 3 ∷ []
entering_now = refl

-- what is true of both is true of each number below two
pub two : (P : ℕ → Type 0) → P 0 → P 1 → (n : ℕ) → n < 2 → P n
two P first second zero within = first
two P first second (suc zero) within = second
two P first second (suc (suc n)) within = absurd (omega (arith, within))

-- of two empty lists each is empty
pub empty_at : {A : Type 0} (place : ℕ) → list_at {A = A} ([] ∷ [] ∷ []) place ≡ []
empty_at zero = refl
empty_at (suc zero) = refl
empty_at (suc (suc n)) = refl

-- nothing is found in an empty list
look_nothing : {A : Type 0} (none : A) (names : List ℕ) (entries : List A) (x : ℕ) → names ≡ [] → look none names entries x ≡ none
look_nothing none names entries x empty = look_missing none names entries x (λ there. contains_none x (subst (λ (list : List ℕ). Contains list x) empty there))

module _ (K : Columned) (objects : K.signature.objects ≡ 2) (arrows : length K.signature.arrows ≡ 2) (attributes : length K.signature.attributes ≡ 0)
    (equations : length K.signature.equations ≡ 0) (is : IsInstance K.signature (instance_of_columns K))
    (enters : (a : ℕ) → a < 2 → target_of K.signature a ≡ 0) (next : (object : ℕ) → object < 2 → next_of K object ≡ 3) (has : Has (instance_of_columns K) 1 0) where
  -- the instance with the change
  abbrev X' : Instance
  X' = changed K.signature (instance_of_columns K) without_first

  -- where the arrows lead is as before
  value_left : (a x : ℕ) → X'.value a x ≡ (instance_of_columns K).value a x
  value_left a x =
      let old = (instance_of_columns K).value a x in
      look_nothing (beside old (list_at without_first.rows a) x) (list_at without_first.added.names (source_of K.signature a)) (list_at without_first.added.arrows a) x
      (empty_at (source_of K.signature a))
      ∙ subst (λ (rows : List (ℕ × ℕ)). beside old rows x ≡ old) (sym (empty_at a)) refl

  -- each arrow leads to a vertex, and these stay
  values_left : (a : ℕ) (ends : ArrowEnds) (x : ℕ) → slice_get K.signature.arrows a ≡ Some ends → Has X' ends.source.0 x → Has X' ends.target.0 (X'.value a x)
  values_left a ends x there has_x =
      let X = instance_of_columns K in
      let source : ℕ = ends.source.0 in
      let value = X.value a x in
      let known = slice_get_within K.signature.arrows a ends there in
      let target : ends.target.0 ≡ 0 = sym (target_is K.signature a ends there) ∙ enters a (omega (arith, known, arrows)) in
      let was : Has X source x = elim (Contains-append_cases (staying_of X without_first source) (list_at without_first.added.names source) x has_x) [
        | inl stay ↦ (stays (list_at without_first.removed source) (X.names source) x stay).0
        | inr come ↦ absurd (contains_none x (subst (λ (list : List ℕ). Contains list x) (empty_at source) come))
      ] in
      let leads : Has X 0 value = subst (λ (object : ℕ). Has X object value) target (is.values a ends x there was) in
      let leads_now : Has X' 0 value =
      Contains-append_left (staying_of X without_first 0) [] value (stays_from [] (X.names 0) value leads (λ goes. contains_none value goes)) in
      subst (λ (object : ℕ). Has X' object (X'.value a x)) (sym target) (subst (Has X' 0) (sym (value_left a x)) leads_now)

  -- the first edge can be removed
  pub removal_fits : FitsColumns K without_first
  removal_fits = record {
    objects = (sym objects, sym objects, sym objects);
    arrows = (sym arrows, sym arrows);
    attributes = (sym attributes, sym attributes);
    removed_ascend = λ object known. two (λ n. ascends (list_at without_first.removed n) ≡ true) refl refl object (omega (arith, known, objects));
    removed = λ object known. two (λ n. All (Has (instance_of_columns K) n) (list_at without_first.removed n))
        (λ k d within. absurd (omega (arith, within))) (All-cons (Has (instance_of_columns K) 1) 0 [] has (All-nil (Has (instance_of_columns K) 1))) object (omega (arith, known, objects));
    added_ascend = λ object known. two (λ n. ascends (list_at without_first.added.names n) ≡ true) refl refl object (omega (arith, known, objects));
    added = λ object known. subst (All (λ name. (next_of K object ≤ name) × (name < slice_index without_first.added.next object))) (sym (empty_at object))
        (λ k d within. absurd (omega (arith, within)));
    next_grows = λ object known. two (λ n. next_of K n ≤ slice_index without_first.added.next n) (omega (arith, next 0 (omega arith))) (omega (arith, next 1 (omega arith)))
        object (omega (arith, known, objects));
    added_rows = λ a ends there. ap (λ (list : List ℕ). length list) (empty_at a ∙ sym (empty_at ends.source.0));
    rows = λ a ends there. subst (AreDifferences (staying_of (instance_of_columns K) without_first ends.source.0) ((instance_of_columns K).value a)) (sym (empty_at a)) (record {
      ascend = refl;
      among = λ k d within. absurd (omega (arith, within));
      differ = λ k d within. absurd (omega (arith, within));
    });
    added_cells = λ c ends there. absurd (let known = slice_get_within K.signature.attributes c ends there in omega (arith, known, attributes));
    cells = λ c ends there. absurd (let known = slice_get_within K.signature.attributes c ends there in omega (arith, known, attributes));
    gives = record {
      values = values_left;
      atoms = λ c ends x atom there. absurd (let known = slice_get_within K.signature.attributes c ends there in omega (arith, known, attributes));
      equations = λ e equation x there. absurd (let known = slice_get_within K.signature.equations e equation there in omega (arith, known, equations));
    };
  }
