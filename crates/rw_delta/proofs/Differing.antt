-- By which names what a change leaves differs from what was there.
use Rattle.std.proofs.Common.{◌≡◌, ◌≢◌, ◌==◌, ◌∙◌, ℕ, ◌<◌, Bool, not, List, [], length, map, get_or, refl, sym, ap, subst, inl, inr, arith}
use Rattle.std.specs.Prelude.{Contains}
use Rattle.std.specs.List.{list_any}
use Rattle.std.proofs.lemmas.Bool.{cases_Bool, both_ways, not-true}
use Rattle.std.proofs.lemmas.List.{get_or-map, get_or_default, length-map}
use Rattle.std.proofs.lemmas.List.Elements.{All-contains, Contains-append_left, Contains-append_right, Contains-append_cases}
use Rattle.rw_schema.specs.RowLists.{list_at}
use Rattle.rw_schema.specs.Signature.{source_of, holder_of}
use Rattle.rw_schema.specs.declared.signature.ArrowEnds.{ArrowEnds}
use Rattle.rw_schema.specs.declared.signature.AttrEnds.{AttrEnds}
use Rattle.rw_spec.specs.Instance.{Instance, Has, look}
use Rattle.rw_spec.proofs.Ascending.{ascends_distinct}
use Rattle.rw_spec.proofs.Look.{contains_found, found_contained, look_at, look_missing}
use Rattle.rw_spec.proofs.Sequences.{contains_filter, contained_in_filter}
use Rattle.rw_columns.specs.ChangedColumns.{FitsColumns}
use Rattle.rw_columns.specs.Changes.{ChangeLists, AreDifferences, beside, entry_names, entry_values, staying_of}
use Rattle.rw_columns.specs.inner.Filled.{AreAll}
use Rattle.rw_columns.specs.Columned.{Columned, instance_of_columns}
use Rattle.rw_columns.proofs.Changed.{cells_differ, new_apart, rows_differ}
use Rattle.rw_delta.specs.After.{instance_after}
use Rattle.rw_delta.specs.Deltas.{IsDelta, IsListOf, IsOtherwise}
use Rattle.rw_delta.specs.inner.Gathered.{AreJoined, AreTouched}

-- what is written beside a name differs from what was there
written_differs : {A : Type 0} (names : List ℕ) (old : ℕ → A) (entries : List (ℕ × A)) (x : ℕ) → AreDifferences names old entries → Contains (entry_names entries) x
    → old x ≢ beside (old x) entries x
written_differs {A} names old entries x are (k, within, there) same =
    let name = λ (entry : ℕ × A). entry.0 in
    let value = λ (entry : ℕ × A). entry.1 in
    let d : ℕ × A = (x, old x) in
    let inside : k < length entries = rw (length-map entries name) at within in
    let place_is : get_or (entry_names entries) k 0 ≡ x = get_or_default (entry_names entries) k 0 x within ∙ there in
    let name_is : (get_or entries k d).0 ≡ x = sym (get_or-map name entries k d x inside) ∙ there in
    let found : beside (old x) entries x ≡ (get_or entries k d).1 =
    ap (λ (y : ℕ). look (old x) (entry_names entries) (entry_values entries) y) (sym place_is)
    ∙ look_at (old x) (entry_names entries) (entry_values entries) k (ascends_distinct (entry_names entries) are.ascend) within
    ∙ get_or-map value entries k d (old x) inside in
    are.differ k d inside (ap old name_is ∙ same ∙ found)

-- where nothing is written beside a name, it has what was there
unwritten_same : {A : Type 0} (old : A) (entries : List (ℕ × A)) (x : ℕ) → (Contains (entry_names entries) x → ⊥) → beside old entries x ≡ old
unwritten_same old entries x none = look_missing old (entry_names entries) (entry_values entries) x none

module _ (columns : Columned) (change : ChangeLists) (fits : FitsColumns columns change) (object : ℕ) (known : object < columns.signature.objects) where
  abbrev before : Instance
  before = instance_of_columns columns

  abbrev after : Instance
  after = instance_after columns change

  abbrev stays : ℕ → Bool
  stays name = not (list_any (λ other. other == name) (list_at change.removed object))

  abbrev stayed : List ℕ
  stayed = staying_of before change object

  -- the names that go are those that are there before alone
  pub removed_is : IsListOf (λ x. Has before object x × (Has after object x → ⊥)) (list_at change.removed object)
  removed_is =
      let removed = list_at change.removed object in
      let added = list_at change.added.names object in
      record {
        ascend = fits.removed_ascend object known;
        members = λ x. (
          λ there.
              let has = All-contains (Has before object) removed x (fits.removed object known) there in (
                has,
                λ has_after. elim (Contains-append_cases stayed added x has_after) [
                  | inl kept ↦ both_ways (list_any (λ other. other == x) removed) (not-true (list_any (λ other. other == x) removed) (contained_in_filter stays (before.names object) x kept).1) (found_contained removed x there)
                  | inr comes ↦ new_apart columns change object x fits known has comes
                ],
              ),
          λ alone. elim (cases_Bool (list_any (λ other. other == x) removed)) [
            | inl found ↦ contains_found removed x found
            | inr missed ↦ absurd (alone.1 (Contains-append_left stayed added x (contains_filter stays (before.names object) x alone.0 (rw missed refl))))
          ],
        );
      }

  -- the names that come are those that are there afterwards alone
  pub added_is : IsListOf (λ x. Has after object x × (Has before object x → ⊥)) (list_at change.added.names object)
  added_is =
      let added = list_at change.added.names object in
      record {
        ascend = fits.added_ascend object known;
        members = λ x. (
          λ there. (Contains-append_right stayed added x there, λ has. new_apart columns change object x fits known has there),
          λ alone. elim (Contains-append_cases stayed added x alone.0) [
            | inl kept ↦ absurd (alone.1 (contained_in_filter stays (before.names object) x kept).0)
            | inr comes ↦ comes
          ],
        );
      }

  -- what stands at a name that was there is what is written beside it, or what was there
  kept_value : (a x : ℕ) → source_of columns.signature a ≡ object → Has before object x → after.value a x ≡ beside (before.value a x) (list_at change.rows a) x
  kept_value a x owner has =
      look_missing (beside (before.value a x) (list_at change.rows a) x) (list_at change.added.names (source_of columns.signature a)) (list_at change.added.arrows a) x
      (λ comes. new_apart columns change object x fits known has (subst (λ (each : ℕ). Contains (list_at change.added.names each) x) owner comes))

  kept_cell : (c x : ℕ) → holder_of columns.signature c ≡ object → Has before object x → after.cell c x ≡ beside (before.cell c x) (list_at change.cells c) x
  kept_cell c x owner has =
      look_missing (beside (before.cell c x) (list_at change.cells c) x) (list_at change.added.names (holder_of columns.signature c)) (list_at change.added.cells c) x
      (λ comes. new_apart columns change object x fits known has (subst (λ (each : ℕ). Contains (list_at change.added.names each) x) owner comes))

  -- a name that stays is there before and afterwards
  kept_both : (x : ℕ) → Contains stayed x → Has before object x × Has after object x
  kept_both x kept = ((contained_in_filter stays (before.names object) x kept).0, Contains-append_left stayed (list_at change.added.names object) x kept)

  -- the names beside which something is written are those that are there before and afterwards and are touched
  pub touched_is : (names : List ℕ)
      → AreTouched (map (λ (each : ArrowEnds). each.source.0) columns.signature.arrows) change.rows (map (λ (each : AttrEnds). each.object.0) columns.signature.attributes) change.cells object names
      → IsListOf (λ x. Has before object x × Has after object x × IsOtherwise columns.signature before after object x) names
  touched_is names are =
      let sources : length (map (λ (each : ArrowEnds). each.source.0) columns.signature.arrows) ≡ length columns.signature.arrows = length-map columns.signature.arrows (λ each. each.source.0) in
      let holders : length (map (λ (each : AttrEnds). each.object.0) columns.signature.attributes) ≡ length columns.signature.attributes = length-map columns.signature.attributes (λ each. each.object.0) in
      record {
        ascend = are.ascend;
        members = λ x. (
          λ there. elim ((are.members x).0 there) [
            | inl (a, within, owner, entry) ↦
                let inside : a < length columns.signature.arrows = omega (arith, within, sources) in
                let differ = rows_differ columns change fits a inside in
                let kept = subst (λ (each : ℕ). Contains (staying_of before change each) x) owner
                (All-contains (Contains (staying_of before change (source_of columns.signature a))) (entry_names (list_at change.rows a)) x differ.among entry) in
                let both = kept_both x kept in (
                  both.0,
                  both.1,
                  inl (
                    a,
                    inside,
                    owner,
                    λ same.
                        written_differs (staying_of before change (source_of columns.signature a)) (before.value a) (list_at change.rows a) x differ entry (same ∙ kept_value a x owner both.0),
                  ),
                )
            | inr (c, within, owner, entry) ↦
                let inside : c < length columns.signature.attributes = omega (arith, within, holders) in
                let differ = cells_differ columns change fits c inside in
                let kept = subst (λ (each : ℕ). Contains (staying_of before change each) x) owner
                (All-contains (Contains (staying_of before change (holder_of columns.signature c))) (entry_names (list_at change.cells c)) x differ.among entry) in
                let both = kept_both x kept in (
                  both.0,
                  both.1,
                  inr (
                    c,
                    inside,
                    owner,
                    λ same.
                        written_differs (staying_of before change (holder_of columns.signature c)) (before.cell c) (list_at change.cells c) x differ entry (same ∙ kept_cell c x owner both.0),
                  ),
                )
          ],
          λ touched. (are.members x).1 (elim touched.2 [
            | inl (a, inside, owner, differs) ↦ elim (cases_Bool (list_any (λ other. other == x) (entry_names (list_at change.rows a)))) [
              | inl found ↦ inl (a, omega (arith, inside, sources), owner, contains_found (entry_names (list_at change.rows a)) x found)
              | inr missed ↦ absurd (differs (sym (kept_value a x owner touched.0 ∙ unwritten_same (before.value a x) (list_at change.rows a) x
                  (λ entry. both_ways (list_any (λ other. other == x) (entry_names (list_at change.rows a))) missed (found_contained (entry_names (list_at change.rows a)) x entry)))))
            ]
            | inr (c, inside, owner, differs) ↦ elim (cases_Bool (list_any (λ other. other == x) (entry_names (list_at change.cells c)))) [
              | inl found ↦ inr (c, omega (arith, inside, holders), owner, contains_found (entry_names (list_at change.cells c)) x found)
              | inr missed ↦ absurd (differs (sym (kept_cell c x owner touched.0 ∙ unwritten_same (before.cell c x) (list_at change.cells c) x
                  (λ entry. both_ways (list_any (λ other. other == x) (entry_names (list_at change.cells c))) missed (found_contained (entry_names (list_at change.cells c)) x entry)))))
            ]
          ]),
        );
      }

module _ (columns : Columned) (change : ChangeLists) (fits : FitsColumns columns change) where
  -- the lists are those by which the two instances differ
  pub delta_is : (touched before after : List (List ℕ))
      → AreAll [] (AreTouched (map (λ (each : ArrowEnds). each.source.0) columns.signature.arrows) change.rows (map (λ (each : AttrEnds). each.object.0) columns.signature.attributes) change.cells) (length change.removed) touched
      → AreAll [] (AreJoined change.removed touched) (length change.removed) before → AreAll [] (AreJoined change.added.names touched) (length change.added.names) after
      → IsDelta columns.signature (instance_of_columns columns) (instance_after columns change)
      (record { removed = change.removed; added = change.added.names; touched = touched; before = before; after = after })
  delta_is touched before after are_touched are_before are_after = record {
    objects = record {
      removed = fits.objects.0;
      added = fits.objects.1;
      touched = are_touched.count ∙ fits.objects.0;
      before = are_before.count ∙ fits.objects.0;
      after = are_after.count ∙ fits.objects.1;
    };
    removed = λ object known. removed_is columns change fits object known;
    added = λ object known. added_is columns change fits object known;
    touched = λ object known. touched_is columns change fits object known (list_at touched object) (are_touched.each object (rw fits.objects.0 known));
    before = λ object known. are_before.each object (rw fits.objects.0 known);
    after = λ object known. are_after.each object (rw fits.objects.1 known);
  }
