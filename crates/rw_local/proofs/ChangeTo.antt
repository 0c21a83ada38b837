-- The change to an instance whose names are those that stay and those that come fits, and gives that instance.
use Rattle.std.proofs.Common.{◌≡◌, ◌∙◌, ◌==◌, ◌<◌, ◌≤◌, ◌++◌, ℕ, Bool, true, not, map, List, [], Contains, length, Option, Some, None, slice_get, slice_index, refl, sym, ap, subst, inl, inr, zero-add, eqb-true}
use Rattle.std.specs.List.{list_any}
use Rattle.std.specs.Option.{option_eq}
use Rattle.std.proofs.lemmas.Bool.{eq-eqb}
use Rattle.std.proofs.lemmas.List.{length-map}
use Rattle.std.proofs.lemmas.List.Elements.{All-weaker, All-contains_itself, Contains-append_cases}
use Rattle.std.proofs.lemmas.List.FromFn.{length-map-range_with_len, get_or-map-range_with_len}
use Rattle.rw_schema.specs.declared.atom.Atom.{Atom}
use Rattle.rw_schema.specs.declared.signature.ArrowEnds.{ArrowEnds}
use Rattle.rw_schema.specs.declared.signature.AttrEnds.{AttrEnds}
use Rattle.rw_schema.specs.Atoms.{is_same_atom}
use Rattle.rw_schema.specs.RowLists.{list_at}
use Rattle.rw_schema.specs.Signature.{Signature, IsCategory, source_of, holder_of}
use Rattle.rw_schema.proofs.Lists.{length_map_in, get_or_map_in}
use Rattle.rw_schema.proofs.SameAtoms.{one_atom, same_as_itself}
use Rattle.rw_spec.specs.Instance.{Instance, IsInstance, Has, look}
use Rattle.rw_spec.specs.Same.{AreSame}
use Rattle.rw_spec.proofs.Ascending.{ascends_distinct, ascends_filter}
use Rattle.rw_spec.proofs.Look.{look_missing}
use Rattle.rw_spec.proofs.Signatures.{source_is, holder_is}
use Rattle.rw_table.proofs.Listed.{look_mapped}
use Rattle.rw_columns.specs.Changes.{AreDifferences, ChangeLists, Fits, beside, changed, differences, staying, staying_of}
use Rattle.rw_columns.proofs.Differences.{written}
use Rattle.rw_columns.proofs.Kept.{among_or_not}
use Rattle.rw_columns.proofs.Same.{same_instance}
use Rattle.rw_complement.proofs.Named.{same_back}
use Rattle.rw_local.specs.inner.ChangeTo.{IsReached, change_to, other_cells, other_values}
use Rattle.rw_local.proofs.Differences.{are_differences}

-- a number is the same as itself
pub number_itself : (a : ℕ) → (a == a) ≡ true
number_itself a = eq-eqb a a refl

-- a cell is the same as itself
pub cell_itself : (a : Option Atom) → option_eq is_same_atom a a ≡ true
cell_itself None = refl
cell_itself (Some a) = same_as_itself a

-- cells that are the same by the test are one
one_cell : (a b : Option Atom) → option_eq is_same_atom a b ≡ true → a ≡ b
one_cell None None same = refl
one_cell None (Some b) same = cc
one_cell (Some a) None same = cc
one_cell (Some a) (Some b) same = ap (λ (x : Atom). Some x) (one_atom a b same)

module _ (C : Signature) (category : IsCategory C) (X H : Instance) (removed added : ℕ → List ℕ) (next next_after : List ℕ)
    (reached : IsReached C X H removed added next next_after)
  where
    -- the change
    abbrev change : ChangeLists
    change = change_to C X H removed added next_after

    -- the names of X that stay
    abbrev stay : ℕ → List ℕ
    stay object = staying (removed object) (X.names object)

    -- of an object the names that go
    removed_is : (object : ℕ) → object < C.objects → list_at change.removed object ≡ removed object
    removed_is object known = get_or-map-range_with_len removed 0 C.objects object object [] known (zero-add object)

    -- and those that come
    added_is : (object : ℕ) → object < C.objects → list_at change.added.names object ≡ added object
    added_is object known = get_or-map-range_with_len added 0 C.objects object object [] known (zero-add object)

    -- of an arrow the rows of names that come
    new_rows_are : (a : ℕ) (ends : ArrowEnds) → slice_get C.arrows a ≡ Some ends → list_at change.added.arrows a ≡ map (H.value a) (added ends.source.0)
    new_rows_are a ends there =
        get_or_map_in (λ a (ends : ArrowEnds). map (H.value a) (added ends.source.0)) 0 C.arrows a ends [] there ∙ rw (zero-add a) refl

    -- of an attribute their cells
    new_cells_are : (c : ℕ) (ends : AttrEnds) → slice_get C.attributes c ≡ Some ends → list_at change.added.cells c ≡ map (H.cell c) (added ends.object.0)
    new_cells_are c ends there =
        get_or_map_in (λ c (ends : AttrEnds). map (H.cell c) (added ends.object.0)) 0 C.attributes c ends [] there ∙ rw (zero-add c) refl

    -- of an arrow the names that stay and lead elsewhere
    pub rows_are : (a : ℕ) (ends : ArrowEnds) → slice_get C.arrows a ≡ Some ends
        → list_at (change_to C X H removed added next_after).rows a ≡ other_values (X.value a) (H.value a) (staying (removed ends.source.0) (X.names ends.source.0))
    rows_are a ends there =
        get_or_map_in (λ a (ends : ArrowEnds). other_values (X.value a) (H.value a) (stay ends.source.0)) 0 C.arrows a ends [] there ∙ rw (zero-add a) refl

    -- of an attribute the names that stay and have another cell
    pub cells_are : (c : ℕ) (ends : AttrEnds) → slice_get C.attributes c ≡ Some ends
        → list_at (change_to C X H removed added next_after).cells c ≡ other_cells (X.cell c) (H.cell c) (staying (removed ends.object.0) (X.names ends.object.0))
    cells_are c ends there =
        get_or_map_in (λ c (ends : AttrEnds). other_cells (X.cell c) (H.cell c) (stay ends.object.0)) 0 C.attributes c ends [] there ∙ rw (zero-add c) refl

    -- the names afterwards
    pub changed_names : (object : ℕ) → object < C.objects → (changed C X (change_to C X H removed added next_after)).names object ≡ H.names object
    changed_names object known = rw (removed_is object known, added_is object known) (sym (reached.names object known))

    -- of an object, an entry beside a name afterwards
    entry_is : {A : Type 0} (same : A → A → Bool) → ((a b : A) → same a b ≡ true → a ≡ b) → (old new : ℕ → A) (object x : ℕ) → object < C.objects
        → Has (changed C X change) object x → look (beside (old x) (differences same old new (stay object)) x) (added object) (map new (added object)) x ≡ new x
    entry_is same is old new object x known has =
        let entry = beside (old x) (differences same old new (stay object)) x in
        let in_both : Contains (stay object ++ added object) x =
        subst (λ (names : List ℕ). Contains names x) (changed_names object known ∙ reached.names object known) has in
        elim (among_or_not (added object) x) [
          | inl comes ↦ look_mapped entry new (added object) x (ascends_distinct (added object) (reached.ascends_added object known)) comes
          | inr none ↦
              look_missing entry (added object) (map new (added object)) x none
              ∙ written same is old new (stay object) x (elim (Contains-append_cases (stay object) (added object) x in_both) [ inl stays ↦ stays | inr comes ↦ absurd (none comes) ])
        ]

    -- the change gives H
    pub changed_same : AreSame C (changed C X (change_to C X H removed added next_after)) H
    changed_same = record {
      names = λ object x known. (
        (λ has. subst (λ (names : List ℕ). Contains names x) (changed_names object known) has),
        (λ has. subst (λ (names : List ℕ). Contains names x) (sym (changed_names object known)) has),
      );
      values = λ a ends x there has.
          let known : ends.source.0 < C.objects = category.sources a ends there in
          let entries : List (ℕ × ℕ) = other_values (X.value a) (H.value a) (stay ends.source.0) in
          ap (λ (entries : List (ℕ × ℕ)). look (beside (X.value a x) entries x) (list_at change.added.names (source_of C a)) (list_at change.added.arrows a) x) (rows_are a ends there)
          ∙ ap (λ (names : List ℕ). look (beside (X.value a x) entries x) names (list_at change.added.arrows a) x)
          (ap (λ (o : ℕ). list_at change.added.names o) (source_is C a ends there) ∙ added_is ends.source.0 known)
          ∙ ap (λ (values : List ℕ). look (beside (X.value a x) entries x) (added ends.source.0) values x) (new_rows_are a ends there)
          ∙ entry_is (λ one other. one == other) (λ a b one. eqb-true a b one) (X.value a) (H.value a) ends.source.0 x known has;
      cells = λ c ends x there has.
          let known : ends.object.0 < C.objects = category.holders c ends there in
          let entries : List (ℕ × Option Atom) = other_cells (X.cell c) (H.cell c) (stay ends.object.0) in
          ap (λ (entries : List (ℕ × Option Atom)). look (beside (X.cell c x) entries x) (list_at change.added.names (holder_of C c)) (list_at change.added.cells c) x) (cells_are c ends there)
          ∙ ap (λ (names : List ℕ). look (beside (X.cell c x) entries x) names (list_at change.added.cells c) x)
          (ap (λ (o : ℕ). list_at change.added.names o) (holder_is C c ends there) ∙ added_is ends.object.0 known)
          ∙ ap (λ (cells : List (Option Atom)). look (beside (X.cell c x) entries x) (added ends.object.0) cells x) (new_cells_are c ends there)
          ∙ entry_is (option_eq is_same_atom) one_cell (X.cell c) (H.cell c) ends.object.0 x known has;
    }

    -- and is an instance
    pub changed_instance : IsInstance C (changed C X (change_to C X H removed added next_after))
    changed_instance = same_instance C H (changed C X change) category (same_back C category (changed C X change) H changed_same) reached.instance

    -- entries that are written are for names that stay, and differ from the old ones
    fit : {A : Type 0} (same : A → A → Bool) → ((a : A) → same a a ≡ true) → (old new : ℕ → A) (object : ℕ) (entries : List (ℕ × A)) → object < C.objects
        → entries ≡ differences same old new (stay object) → AreDifferences (staying_of X change object) old entries
    fit {A} same itself old new object entries known are =
        subst (λ (entries : List (ℕ × A)). AreDifferences (staying_of X change object) old entries) (sym are)
        (subst (λ (gone : List ℕ). AreDifferences (staying gone (X.names object)) old (differences same old new (stay object))) (sym (removed_is object known))
        (are_differences same itself old new (stay object)
        (ascends_filter (λ name. not (list_any (λ other. other == name) (removed object))) (X.names object) (reached.ascends_before object known))))

    -- the change fits
    pub change_fits : Fits C X (slice_index next) (change_to C X H removed added next_after)
    change_fits = record {
      objects = (length-map-range_with_len removed 0 C.objects, length-map-range_with_len added 0 C.objects, reached.counted);
      arrows = (
        length_map_in (λ a (ends : ArrowEnds). other_values (X.value a) (H.value a) (stay ends.source.0)) 0 C.arrows,
        length_map_in (λ a (ends : ArrowEnds). map (H.value a) (added ends.source.0)) 0 C.arrows,
      );
      attributes = (
        length_map_in (λ c (ends : AttrEnds). other_cells (X.cell c) (H.cell c) (stay ends.object.0)) 0 C.attributes,
        length_map_in (λ c (ends : AttrEnds). map (H.cell c) (added ends.object.0)) 0 C.attributes,
      );
      removed_ascend = λ object known. rw (removed_is object known) (reached.ascends_removed object known);
      removed = λ object known.
          rw (removed_is object known)
          (All-weaker (Contains (removed object)) (Has X object) (λ x there. reached.removed_from object x known there) (removed object) (All-contains_itself (removed object)));
      added_ascend = λ object known. rw (added_is object known) (reached.ascends_added object known);
      added = λ object known.
          rw (added_is object known)
          (All-weaker (Contains (added object)) (λ name. (slice_index next object ≤ name) × (name < slice_index next_after object)) (λ x there. reached.added_past object x known there)
          (added object) (All-contains_itself (added object)));
      next_grows = reached.grown;
      added_rows = λ a ends there.
          ap length (new_rows_are a ends there) ∙ length-map (added ends.source.0) (H.value a) ∙ ap length (sym (added_is ends.source.0 (category.sources a ends there)));
      added_cells = λ c ends there.
          ap length (new_cells_are c ends there) ∙ length-map (added ends.object.0) (H.cell c) ∙ ap length (sym (added_is ends.object.0 (category.holders c ends there)));
      rows = λ a ends there.
          fit (λ one other. one == other) number_itself (X.value a) (H.value a) ends.source.0 (list_at change.rows a) (category.sources a ends there) (rows_are a ends there);
      cells = λ c ends there.
          fit (option_eq is_same_atom) cell_itself (X.cell c) (H.cell c) ends.object.0 (list_at change.cells c) (category.holders c ends there) (cells_are c ends there);
      gives = changed_instance;
    }
