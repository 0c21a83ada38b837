-- What a change makes of instances that are the same is the same, and so are its lists.
use Rattle.std.proofs.Common.{◌≡◌, ◌≢◌, ◌==◌, ◌∙◌, ◌<◌, ◌≤◌, ◌+◌, ◌++◌, ℕ, zero, suc, cond, true, Contains, List, [], ◌∷◌, Option, length, map, get_or, Some, slice_get, slice_index, refl, sym, ap, subst, inl, inr, zero-add, add-zero, eq-eqb, arith}
use Rattle.std.specs.List.{All, range_with_len}
use Rattle.std.specs.Ordering.{nat_cmp}
use Rattle.std.proofs.lemmas.Cmp.{nat_cmp_total}
use Rattle.std.proofs.lemmas.List.{get_or-map, length-map}
use Rattle.std.proofs.lemmas.List.Elements.{Contains-append_cases}
use Rattle.std.proofs.lemmas.List.FromFn.{fill_by_all}
use Rattle.rw_schema.specs.declared.atom.Atom.{Atom}
use Rattle.rw_schema.specs.declared.signature.ArrowEnds.{ArrowEnds}
use Rattle.rw_schema.specs.declared.signature.AttrEnds.{AttrEnds}
use Rattle.rw_schema.specs.First.{map_in}
use Rattle.rw_schema.specs.RowLists.{RowLists, list_at}
use Rattle.rw_schema.specs.Signature.{Signature, IsCategory, source_of, holder_of}
use Rattle.rw_spec.specs.Ascending.{ascends}
use Rattle.rw_spec.specs.Instance.{Instance, instance_of, lists_of, look}
use Rattle.rw_spec.specs.Same.{AreSame}
use Rattle.rw_spec.proofs.Look.{contains_cases}
use Rattle.rw_spec.proofs.OneOrder.{one_order}
use Rattle.rw_spec.proofs.Ranges.{range_bounds}
use Rattle.rw_spec.proofs.Sequences.{contains_here, contains_later, contains_none}
use Rattle.rw_spec.proofs.Signatures.{source_is, holder_is}
use Rattle.rw_spec.proofs.TuplesAscend.{sorted_from_ascends}
use Rattle.rw_table.proofs.Sound.{same_rows}
use Rattle.rw_columns.specs.ChangedColumns.{AreChanged, FitsColumns}
use Rattle.rw_columns.specs.Changes.{AreDifferences, ChangeLists, Fits, beside, changed, entry_names, entry_values, staying, staying_of}
use Rattle.rw_columns.specs.Columned.{Columned, instance_of_columns, next_of}
use Rattle.rw_columns.specs.Kept.{lists_of_columns}
use Rattle.rw_columns.proofs.Changed.{names_ascend}
use Rattle.rw_columns.proofs.MayCommit.{stays}
use Rattle.rw_columns.proofs.Same.{same_instance}
use Rattle.rw_complement.proofs.Named.{same_back}
use Rattle.rw_local.proofs.Local.{map_same}
use Rattle.rw_app.proofs.ColumnLists.{listed_instance, names_same, next_listed, same_as_listed}

-- ---- what a change makes

-- what is found beside a name does not depend on what is given where there is none
look_any : {A : Type 0} (one other : A) (names : List ℕ) (entries : List A) (x : ℕ) → Contains names x → length entries ≡ length names
    → look one names entries x ≡ look other names entries x
look_any one other [] entries x there long = absurd (contains_none x there)
look_any one other (name ∷ names) [] x there long = absurd (omega arith)
look_any one other (name ∷ names) (entry ∷ entries) x there long =
    elim (contains_cases name names x there) [
      | inl here ↦ rw (eq-eqb name x here) refl
      | inr later ↦ ap (cond (name == x) entry) (look_any one other names entries x later (omega arith))
    ]

-- what is written beside a name that stays or comes is the same, where what was there before is
written_same : {A : Type 0} (old new : ℕ → A) (names removed : List ℕ) (entries : List (ℕ × A)) (added : List ℕ) (values : List A) (x : ℕ)
    → ((y : ℕ) → Contains names y → old y ≡ new y) → length values ≡ length added → Contains (staying removed names ++ added) x
    → look (beside (old x) entries x) added values x ≡ look (beside (new x) entries x) added values x
written_same old new names removed entries added values x same long has =
    elim (Contains-append_cases (staying removed names) added x has) [
      | inl stay ↦ ap (λ value. look (beside value entries x) added values x) (same x (stays removed names x stay).0)
      | inr comes ↦ look_any (beside (old x) entries x) (beside (new x) entries x) added values x comes long
    ]

-- entries that differ from what is there differ from what is the same
differ_same : {A : Type 0} (old new : ℕ → A) (names other removed : List ℕ) (entries : List (ℕ × A)) → names ≡ other → ((y : ℕ) → Contains names y → old y ≡ new y)
    → AreDifferences (staying removed names) old entries → AreDifferences (staying removed other) new entries
differ_same old new names other removed entries is same differences = record {
  ascend = differences.ascend;
  among = subst (λ (list : List ℕ). All (Contains (staying removed list)) (entry_names entries)) is differences.among;
  differ = λ k d within.
      let entry = get_or entries k d in
      let among : Contains (staying removed names) entry.0 =
      subst (Contains (staying removed names)) (get_or-map (λ entry. entry.0) entries k d d.0 within)
      (differences.among k d.0 (omega (arith, length-map entries (λ entry. entry.0)))) in
      λ is_new. differences.differ k d within (same entry.0 (stays removed names entry.0 among).0 ∙ is_new);
}

module _ (C : Signature) (category : IsCategory C) (X Y : Instance) (same : AreSame C X Y) (names : (object : ℕ) → object < C.objects → X.names object ≡ Y.names object)
    (change : ChangeLists) (next : ℕ → ℕ) (fits : Fits C X next change)
  where
    -- the instances that the change gives have the same names
    pub changed_names : (object : ℕ) → object < C.objects → (changed C X change).names object ≡ (changed C Y change).names object
    changed_names object known = ap (λ (list : List ℕ). staying (list_at change.removed object) list ++ list_at change.added.names object) (names object known)

    -- they are the same
    pub changed_alike : AreSame C (changed C X change) (changed C Y change)
    changed_alike = record {
      names = λ object x known.
          (subst (λ (list : List ℕ). Contains list x) (changed_names object known), subst (λ (list : List ℕ). Contains list x) (sym (changed_names object known)));
      values = λ a ends x there has.
          subst (λ (object : ℕ). look (beside (X.value a x) (list_at change.rows a) x) (list_at change.added.names object) (list_at change.added.arrows a) x
          ≡ look (beside (Y.value a x) (list_at change.rows a) x) (list_at change.added.names object) (list_at change.added.arrows a) x) (sym (source_is C a ends there))
          (written_same (X.value a) (Y.value a) (X.names ends.source.0) (list_at change.removed ends.source.0) (list_at change.rows a) (list_at change.added.names ends.source.0)
          (list_at change.added.arrows a) x (λ y is. same.values a ends y there is) (fits.added_rows a ends there) has);
      cells = λ c ends x there has.
          subst (λ (object : ℕ). look (beside (X.cell c x) (list_at change.cells c) x) (list_at change.added.names object) (list_at change.added.cells c) x
          ≡ look (beside (Y.cell c x) (list_at change.cells c) x) (list_at change.added.names object) (list_at change.added.cells c) x) (sym (holder_is C c ends there))
          (written_same (X.cell c) (Y.cell c) (X.names ends.object.0) (list_at change.removed ends.object.0) (list_at change.cells c) (list_at change.added.names ends.object.0)
          (list_at change.added.cells c) x (λ y is. same.cells c ends y there is) (fits.added_cells c ends there) has);
    }

    -- the change fits the one where it fits the other
    pub fits_same : (other_next : ℕ → ℕ) → ((object : ℕ) → object < C.objects → next object ≡ other_next object) → Fits C Y other_next change
    fits_same other_next nexts = record {
      objects = fits.objects;
      arrows = fits.arrows;
      attributes = fits.attributes;
      removed_ascend = fits.removed_ascend;
      removed = λ object known. subst (λ (list : List ℕ). All (Contains list) (list_at change.removed object)) (names object known) (fits.removed object known);
      added_ascend = fits.added_ascend;
      added = λ object known.
          subst (λ (bound : ℕ). All (λ name. (bound ≤ name) × (name < slice_index change.added.next object)) (list_at change.added.names object)) (nexts object known) (fits.added object known);
      next_grows = λ object known. subst (λ (bound : ℕ). bound ≤ slice_index change.added.next object) (nexts object known) (fits.next_grows object known);
      added_rows = fits.added_rows;
      added_cells = fits.added_cells;
      rows = λ a ends there.
          differ_same (X.value a) (Y.value a) (X.names ends.source.0) (Y.names ends.source.0) (list_at change.removed ends.source.0) (list_at change.rows a)
          (names ends.source.0 (category.sources a ends there)) (λ y is. same.values a ends y there is) (fits.rows a ends there);
      cells = λ c ends there.
          differ_same (X.cell c) (Y.cell c) (X.names ends.object.0) (Y.names ends.object.0) (list_at change.removed ends.object.0) (list_at change.cells c)
          (names ends.object.0 (category.holders c ends there)) (λ y is. same.cells c ends y there is) (fits.cells c ends there);
      gives = same_instance C (changed C X change) (changed C Y change) category changed_alike fits.gives;
    }

-- ---- lists

-- numbered items are the same where each is
map_in_alike : {X A : Type 0} (f g : ℕ → X → A) (i : ℕ) (xs : List X) → ((k : ℕ) (x : X) → slice_get xs k ≡ Some x → f (i + k) x ≡ g (i + k) x)
    → map_in f i xs ≡ map_in g i xs
map_in_alike f g i [] same = refl
map_in_alike f g i (x ∷ xs) same =
    let here : f i x ≡ g i x = rw add-zero at (same 0 x refl) in
    let later : map_in f (i + 1) xs ≡ map_in g (i + 1) xs =
    map_in_alike f g (i + 1) xs (λ k y there. let place : (i + 1) + k ≡ i + suc k = omega arith in rw place (same (suc k) y there)) in
    rw (here, later) refl

-- instances that are the same, with names in the same order, have the same lists
same_lists : (C : Signature) → IsCategory C → (X Y : Instance) (next other : List ℕ) → AreSame C X Y → ((object : ℕ) → object < C.objects → X.names object ≡ Y.names object)
    → next ≡ other → lists_of C X next ≡ lists_of C Y other
same_lists C category X Y next other same names nexts =
    let all : map X.names (range_with_len 0 C.objects) ≡ map Y.names (range_with_len 0 C.objects) =
    map_same X.names Y.names (range_with_len 0 C.objects) (λ object there. names object (subst (λ (bound : ℕ). object < bound) (zero-add C.objects) (range_bounds 0 C.objects object there).1)) in
    let arrows : (lists_of C X next).arrows ≡ (lists_of C Y other).arrows =
    map_in_alike (λ a (ends : ArrowEnds). map (X.value a) (X.names ends.source.0)) (λ a (ends : ArrowEnds). map (Y.value a) (Y.names ends.source.0)) 0 C.arrows
    (λ a ends there.
    rw (zero-add a, ← (names ends.source.0 (category.sources a ends there))) (map_same (X.value a) (Y.value a) (X.names ends.source.0) (λ x has. same.values a ends x there has))) in
    let cells : (lists_of C X next).cells ≡ (lists_of C Y other).cells =
    map_in_alike (λ c (ends : AttrEnds). map (X.cell c) (X.names ends.object.0)) (λ c (ends : AttrEnds). map (Y.cell c) (Y.names ends.object.0)) 0 C.attributes
    (λ c ends there.
    rw (zero-add c, ← (names ends.object.0 (category.holders c ends there))) (map_same (X.cell c) (Y.cell c) (X.names ends.object.0) (λ x has. same.cells c ends x there has))) in
    same_rows (lists_of C X next) (lists_of C Y other) all arrows cells nexts

-- what is the same as the same is the same
same_then : (C : Signature) → IsCategory C → (X Y Z : Instance) → AreSame C X Y → AreSame C Y Z → AreSame C X Z
same_then C category X Y Z one two = record {
  names = λ object x known. let first = one.names object x known in let second = two.names object x known in (λ has. second.0 (first.0 has), λ has. first.1 (second.1 has));
  values = λ a ends x there has.
      one.values a ends x there has ∙ two.values a ends x there ((one.names ends.source.0 x (category.sources a ends there)).0 has);
  cells = λ c ends x there has.
      one.cells c ends x there has ∙ two.cells c ends x there ((one.names ends.object.0 x (category.holders c ends there)).0 has);
}

-- ---- columns

module _ (old : Columned) (category : IsCategory old.signature) (change : ChangeLists) where
  -- the columns' schema, names apart, and their two instances
  abbrev C : Signature
  C = old.signature

  abbrev X : Instance
  X = instance_of_columns old

  abbrev Y : Instance
  Y = listed_instance old

  -- they are the same
  same : AreSame old.signature (instance_of_columns old) (listed_instance old)
  same = same_as_listed old category (names_ascend old)

  -- a change that fits the lists fits the columns
  fits_listed : Fits old.signature (listed_instance old) (slice_index (lists_of_columns old).next) change → FitsColumns old change
  fits_listed fits =
      fits_same C category Y X (same_back C category X Y same) (names_same old) change (slice_index (lists_of_columns old).next) fits (next_of old)
      (λ object known. next_listed old object known)

  -- the lists of the columns that it leaves are those of the instance that it leaves
  listed_after : (new : Columned) → Fits old.signature (listed_instance old) (slice_index (lists_of_columns old).next) change → AreChanged old change new
      → ((object : ℕ) → object < old.signature.objects → ascends ((changed old.signature (listed_instance old) change).names object) ≡ true)
      → lists_of_columns new ≡ lists_of old.signature (changed old.signature (listed_instance old) change) change.added.next
  listed_after new fits is up =
      let N : Instance = instance_of_columns new in
      let after : Instance = changed C Y change in
      let alike : AreSame C (changed C X change) after =
      changed_alike C category X Y same (λ object known. sym (names_same old object known)) change (next_of old) (fits_listed fits) in
      let new_same : AreSame C N after = same_then C category N (changed C X change) after is.instance alike in
      let names : (object : ℕ) → object < C.objects → N.names object ≡ after.names object =
      λ object known. one_order nat_cmp nat_cmp_total (N.names object) (after.names object) (sorted_from_ascends (N.names object) (names_ascend new object))
      (sorted_from_ascends (after.names object) (up object known)) (λ x has. (new_same.names object x known).0 has) (λ x has. (new_same.names object x known).1 has) in
      let nexts : map (next_of new) (range_with_len 0 C.objects) ≡ change.added.next =
      sym (fill_by_all (next_of new) change.added.next C.objects 0 fits.objects.2 (λ object known. sym (is.next object known))) in
      subst (λ (D : Signature). lists_of D N (map (next_of new) (range_with_len 0 D.objects)) ≡ lists_of C after change.added.next) (sym is.signature)
      (same_lists C category N after (map (next_of new) (range_with_len 0 C.objects)) change.added.next new_same names nexts)

module _ (columns : Columned) (C : Signature) (category : IsCategory C) (over : columns.signature ≡ C) (change : ChangeLists)
    (fits : Fits C (instance_of C (lists_of_columns columns)) (slice_index (lists_of_columns columns).next) change)
  where
    -- the columns' schema presents the category
    category_of : IsCategory columns.signature
    category_of = subst (λ (D : Signature). IsCategory D) (sym over) category

    -- the change fits over it
    fits_over : Fits columns.signature (listed_instance columns) (slice_index (lists_of_columns columns).next) change
    fits_over = subst (λ (D : Signature). Fits D (instance_of D (lists_of_columns columns)) (slice_index (lists_of_columns columns).next) change) (sym over) fits

    -- a change that fits the lists of columns fits the columns
    pub fits_columns : FitsColumns columns change
    fits_columns = fits_listed columns category_of change fits_over

    -- and the lists afterwards are those of the instance that it leaves
    pub lists_after : (new : Columned) → AreChanged columns change new
        → ((object : ℕ) → object < C.objects → ascends ((changed C (instance_of C (lists_of_columns columns)) change).names object) ≡ true)
        → lists_of_columns new ≡ lists_of C (changed C (instance_of C (lists_of_columns columns)) change) change.added.next
    lists_after new is up =
        subst (λ (D : Signature). lists_of_columns new ≡ lists_of D (changed D (instance_of D (lists_of_columns columns)) change) change.added.next) over
        (listed_after columns category_of change new fits_over is
        (subst (λ (D : Signature). (object : ℕ) → object < D.objects → ascends ((changed D (instance_of D (lists_of_columns columns)) change).names object) ≡ true) (sym over) up))
