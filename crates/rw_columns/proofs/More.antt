-- A weighted graph that gains a vertex and an edge, worked out.
use Rattle.std.proofs.Common.{◌≡◌, ◌≢◌, ◌∙◌, ◌==◌, List, ℕ, zero, suc, ◌<◌, ◌≤◌, [], ◌∷◌, All, Contains, None, Some, true, length, slice_get, slice_index, refl, sym, ap, subst, inl, inr, arith, eq-eqb, true≢false}
use Rattle.std.proofs.lemmas.Bool.{cases_Bool}
use Rattle.std.proofs.lemmas.List.Elements.{All-cons, All-nil, Contains-append_left, Contains-append_right, Contains-append_cases}
use Rattle.std.proofs.lemmas.Option.{slice_get_within}
use Rattle.rw_schema.specs.declared.atom.Atom.{Atom}
use Rattle.rw_schema.specs.Atoms.{kind_of}
use Rattle.rw_schema.specs.declared.signature.ArrowEnds.{ArrowEnds}
use Rattle.rw_schema.specs.declared.signature.AttrEnds.{AttrEnds}
use Rattle.rw_schema.specs.RowLists.{list_at}
use Rattle.rw_schema.specs.Signature.{source_of, holder_of}
use Rattle.rw_spec.specs.Ascending.{ascends}
use Rattle.rw_spec.specs.Ends.{target_of}
use Rattle.rw_spec.specs.Instance.{Instance, Has, IsInstance, look}
use Rattle.rw_spec.proofs.Look.{contains_cases}
use Rattle.rw_spec.proofs.Sequences.{contains_here, contains_none}
use Rattle.rw_spec.proofs.Signatures.{source_is, target_is, holder_is}
use Rattle.rw_columns.specs.ChangedColumns.{FitsColumns}
use Rattle.rw_columns.specs.Changes.{AreDifferences, beside, changed, staying_of}
use Rattle.rw_columns.specs.Columned.{Columned, column_at, instance_of_columns, next_of}
use Rattle.rw_columns.specs.inner.Examples.{with_more}
use Rattle.rw_columns.proofs.Columned.{places_are}
use Rattle.rw_columns.proofs.Committed.{stays_from}
use Rattle.rw_columns.proofs.Examples.{empty_at, two}
use Rattle.rw_columns.proofs.MayCommit.{stays}

-- what is true of zero is true of each number below one
one : (P : ℕ → Type 0) → P 0 → (n : ℕ) → n < 1 → P n
one P first zero within = first
one P first (suc n) within = absurd (omega (arith, within))

module _ (K : Columned) (objects : K.signature.objects ≡ 2) (arrows : length K.signature.arrows ≡ 2) (attributes : length K.signature.attributes ≡ 1)
    (equations : length K.signature.equations ≡ 0) (is : IsInstance K.signature (instance_of_columns K))
    (leaves : (a : ℕ) → a < 2 → source_of K.signature a ≡ 1) (enters : (a : ℕ) → a < 2 → target_of K.signature a ≡ 0) (holds : holder_of K.signature 0 ≡ 0)
    (next : (object : ℕ) → object < 2 → next_of K object ≡ 3) (edge : Has (instance_of_columns K) 1 2) (first : Has (instance_of_columns K) 0 0)
    (second : Has (instance_of_columns K) 0 1) (weighed : (instance_of_columns K).cell 0 1 ≢ None) where
  abbrev X : Instance
  X = instance_of_columns K

  -- the instance with the change
  abbrev X' : Instance
  X' = changed K.signature (instance_of_columns K) with_more

  -- each name stays
  all_stay : (object x : ℕ) → Has X object x → Contains (staying_of X with_more object) x
  all_stay object x has =
      stays_from (list_at with_more.removed object) (X.names object) x has
      (λ goes. contains_none x (subst (λ (list : List ℕ). Contains list x) (empty_at object) goes))

  -- so it is a name of the changed instance
  kept : (object x : ℕ) → Has X object x → Has X' object x
  kept object x has = Contains-append_left (staying_of X with_more object) (list_at with_more.added.names object) x (all_stay object x has)

  -- a name of the changed instance other than 3 was there
  was_there : (object x : ℕ) → object < 2 → Has X' object x → 3 ≢ x → Has X object x
  was_there object x known has other =
      elim (Contains-append_cases (staying_of X with_more object) (list_at with_more.added.names object) x has) [
        | inl stay ↦ (stays (list_at with_more.removed object) (X.names object) x stay).0
        | inr come ↦ absurd (two (λ n. Contains (list_at with_more.added.names n) x → ⊥)
            (λ only. elim (contains_cases 3 [] x only) [ inl same ↦ other same | inr later ↦ contains_none x later ])
            (λ only. elim (contains_cases 3 [] x only) [ inl same ↦ other same | inr later ↦ contains_none x later ]) object known come)
      ]

  -- the new vertex
  new_vertex : Has X' 0 3
  new_vertex = Contains-append_right (staying_of X with_more 0) (3 ∷ []) 3 (contains_here 3 [])

  -- the ends of each arrow
  source_one : (a : ℕ) (ends : ArrowEnds) → slice_get K.signature.arrows a ≡ Some ends → ends.source.0 ≡ 1
  source_one a ends there =
      let known = slice_get_within K.signature.arrows a ends there in sym (source_is K.signature a ends there) ∙ leaves a (omega (arith, known, arrows))

  target_zero : (a : ℕ) (ends : ArrowEnds) → slice_get K.signature.arrows a ≡ Some ends → ends.target.0 ≡ 0
  target_zero a ends there =
      let known = slice_get_within K.signature.arrows a ends there in sym (target_is K.signature a ends there) ∙ enters a (omega (arith, known, arrows))

  -- where an arrow led before is a vertex
  led : (a : ℕ) (ends : ArrowEnds) (x : ℕ) → slice_get K.signature.arrows a ≡ Some ends → Has X 1 x → Has X 0 (X.value a x)
  led a ends x there has =
      subst (λ (object : ℕ). Has X object (X.value a x)) (target_zero a ends there)
      (is.values a ends x there (subst (λ (object : ℕ). Has X object x) (sym (source_one a ends there)) has))

  -- where each arrow leads now is a vertex
  leads_now : (a : ℕ) → a < 2 → (ends : ArrowEnds) (x : ℕ) → slice_get K.signature.arrows a ≡ Some ends → Has X' 1 x
      → Has X' 0 (look (beside (X.value a x) (list_at with_more.rows a) x) (3 ∷ []) (list_at with_more.added.arrows a) x)
  leads_now = two (λ a. (ends : ArrowEnds) (x : ℕ) → slice_get K.signature.arrows a ≡ Some ends → Has X' 1 x
      → Has X' 0 (look (beside (X.value a x) (list_at with_more.rows a) x) (3 ∷ []) (list_at with_more.added.arrows a) x))
      (λ ends x there has. elim (cases_Bool (3 == x)) [
        | inl new ↦ rw new new_vertex
        | inr old ↦ rw old (kept 0 (X.value 0 x) (led 0 ends x there (was_there 1 x (omega arith) has (λ same. true≢false (sym (eq-eqb 3 x same) ∙ old)))))
      ])
      (λ ends x there has. elim (cases_Bool (3 == x)) [
        | inl new ↦ rw new (kept 0 0 first)
        | inr old ↦ rw old (elim (cases_Bool (2 == x)) [
          | inl moved ↦ rw moved new_vertex
          | inr stays_put ↦ rw stays_put (kept 0 (X.value 1 x) (led 1 ends x there (was_there 1 x (omega arith) has (λ same. true≢false (sym (eq-eqb 3 x same) ∙ old)))))
        ])
      ])

  values_now : (a : ℕ) (ends : ArrowEnds) (x : ℕ) → slice_get K.signature.arrows a ≡ Some ends → Has X' ends.source.0 x → Has X' ends.target.0 (X'.value a x)
  values_now a ends x there has =
      let known : a < 2 = let within = slice_get_within K.signature.arrows a ends there in omega (arith, within, arrows) in
      let value_at = λ (source : ℕ). look (beside (X.value a x) (list_at with_more.rows a) x) (list_at with_more.added.names source) (list_at with_more.added.arrows a) x in
      subst (λ (object : ℕ). Has X' object (X'.value a x)) (sym (target_zero a ends there))
      (subst (λ (source : ℕ). Has X' 0 (value_at source)) (sym (leaves a known))
      (leads_now a known ends x there (subst (λ (object : ℕ). Has X' object x) (source_one a ends there) has)))

  -- a cell that is not blank now was there
  atoms_now : (c : ℕ) → c < 1 → (ends : AttrEnds) (x : ℕ) (atom : Atom) → slice_get K.signature.attributes c ≡ Some ends → Has X' ends.object.0 x
      → X'.cell c x ≡ Some atom → kind_of atom ≡ ends.kind
  atoms_now = one (λ c. (ends : AttrEnds) (x : ℕ) (atom : Atom) → slice_get K.signature.attributes c ≡ Some ends → Has X' ends.object.0 x
      → X'.cell c x ≡ Some atom → kind_of atom ≡ ends.kind)
      (λ ends x atom there has cell_is.
      let holder : ends.object.0 ≡ 0 = sym (holder_is K.signature 0 ends there) ∙ holds in
      let cell_at = λ (object : ℕ). look (beside (X.cell 0 x) ((1, None) ∷ []) x) (list_at with_more.added.names object) (None ∷ []) x in
      let now : cell_at 0 ≡ Some atom = sym (ap cell_at holds) ∙ cell_is in
      elim (cases_Bool (3 == x)) [
        | inl new ↦ absurd (let none_is : None ≡ Some atom = rw new at now in cc)
        | inr old ↦
            let was : beside (X.cell 0 x) ((1, None) ∷ []) x ≡ Some atom = rw old at now in
            elim (cases_Bool (1 == x)) [
              | inl blank ↦ absurd (let none_is : None ≡ Some atom = rw blank at was in cc)
              | inr full ↦
                  let has_now = subst (λ (object : ℕ). Has X' object x) holder has in
                  let had = was_there 0 x (omega arith) has_now (λ same. true≢false (sym (eq-eqb 3 x same) ∙ old)) in
                  is.atoms 0 ends x atom there (subst (λ (object : ℕ). Has X object x) (sym holder) had) (rw full at was)
            ]
      ])

  -- the change fits
  pub more_fits : FitsColumns K with_more
  more_fits = record {
    objects = (sym objects, sym objects, sym objects);
    arrows = (sym arrows, sym arrows);
    attributes = (sym attributes, sym attributes);
    removed_ascend = λ object known. subst (λ (names : List ℕ). ascends names ≡ true) (sym (empty_at object)) refl;
    removed = λ object known. subst (All (Has X object)) (sym (empty_at object)) (All-nil (Has X object));
    added_ascend = λ object known. two (λ n. ascends (list_at with_more.added.names n) ≡ true) refl refl object (omega (arith, known, objects));
    added = λ object known. two (λ n. All (λ name. (next_of K n ≤ name) × (name < slice_index with_more.added.next n)) (list_at with_more.added.names n))
        (All-cons (λ name. (next_of K 0 ≤ name) × (name < 4)) 3 [] (omega (arith, next 0 (omega arith)), omega arith) (All-nil (λ name. (next_of K 0 ≤ name) × (name < 4))))
        (All-cons (λ name. (next_of K 1 ≤ name) × (name < 4)) 3 [] (omega (arith, next 1 (omega arith)), omega arith) (All-nil (λ name. (next_of K 1 ≤ name) × (name < 4))))
        object (omega (arith, known, objects));
    next_grows = λ object known. two (λ n. next_of K n ≤ slice_index with_more.added.next n) (omega (arith, next 0 (omega arith))) (omega (arith, next 1 (omega arith)))
        object (omega (arith, known, objects));
    added_rows = λ a ends there. subst (λ (source : ℕ). length (list_at with_more.added.arrows a) ≡ length (list_at with_more.added.names source)) (sym (source_one a ends there))
        (two (λ n. length (list_at with_more.added.arrows n) ≡ 1) refl refl a (let within = slice_get_within K.signature.arrows a ends there in omega (arith, within, arrows)));
    added_cells = λ c ends there. one (λ n. (each : AttrEnds) → slice_get K.signature.attributes n ≡ Some each
        → length (list_at with_more.added.cells n) ≡ length (list_at with_more.added.names each.object.0))
        (λ each is_there. subst (λ (object : ℕ). 1 ≡ length (list_at with_more.added.names object)) (sym holds ∙ holder_is K.signature 0 each is_there) refl)
        c (let within = slice_get_within K.signature.attributes c ends there in omega (arith, within, attributes)) ends there;
    rows = λ a ends there. two (λ n. (each : ArrowEnds) → slice_get K.signature.arrows n ≡ Some each
        → AreDifferences (staying_of X with_more each.source.0) (X.value n) (list_at with_more.rows n))
        (λ each is_there. record { ascend = refl; among = All-nil (Contains (staying_of X with_more each.source.0)); differ = All-nil (λ entry. X.value 0 entry.0 ≢ entry.1) })
        (λ each is_there. record {
          ascend = refl;
          among = All-cons (Contains (staying_of X with_more each.source.0)) 2 []
              (all_stay each.source.0 2 (subst (λ (object : ℕ). Has X object 2) (sym (source_one 1 each is_there)) edge)) (All-nil (Contains (staying_of X with_more each.source.0)));
          differ = All-cons (λ entry. X.value 1 entry.0 ≢ entry.1) (2, 3) []
              (λ same. let below = (places_are (column_at K.names 0).values 0 (X.value 1 2) (led 1 each 2 is_there edge)).0 in omega (arith, same, below, next 0 (omega arith)))
              (All-nil (λ entry. X.value 1 entry.0 ≢ entry.1));
        })
        a (let within = slice_get_within K.signature.arrows a ends there in omega (arith, within, arrows)) ends there;
    cells = λ c ends there. one (λ n. (each : AttrEnds) → slice_get K.signature.attributes n ≡ Some each
        → AreDifferences (staying_of X with_more each.object.0) (X.cell n) (list_at with_more.cells n))
        (λ each is_there. record {
          ascend = refl;
          among = All-cons (Contains (staying_of X with_more each.object.0)) 1 []
              (all_stay each.object.0 1 (subst (λ (object : ℕ). Has X object 1) (sym holds ∙ holder_is K.signature 0 each is_there) second)) (All-nil (Contains (staying_of X with_more each.object.0)));
          differ = All-cons (λ entry. X.cell 0 entry.0 ≢ entry.1) (1, None) [] weighed (All-nil (λ entry. X.cell 0 entry.0 ≢ entry.1));
        })
        c (let within = slice_get_within K.signature.attributes c ends there in omega (arith, within, attributes)) ends there;
    gives = record {
      values = values_now;
      atoms = λ c ends x atom there has cell_is.
          atoms_now c (let within = slice_get_within K.signature.attributes c ends there in omega (arith, within, attributes)) ends x atom there has cell_is;
      equations = λ e equation x there. absurd (let known = slice_get_within K.signature.equations e equation there in omega (arith, known, equations));
    };
  }
