-- The list of parts over an object has each part once.
use Rattle.std.proofs.Common.{◌≡◌, ◌≢◌, ◌∙◌, ◌<◌, ◌+◌, ◌==◌, ◌⊎◌, ℕ, zero, suc, inl, inr, Bool, true, false, not, cond, List, [], ◌∷◌, Contains, Some, length, map, filter, slice_get, slice_index, refl, sym, ap, subst, arith, zero-add}
use Rattle.std.specs.List.{list_all}
use Rattle.std.proofs.lemmas.Bool.{cases_Bool, cases_eq, both_ways, eqb-true, eq-eqb, ne_eqb, or_cases, or_left, or_right}
use Rattle.std.proofs.lemmas.Option.{slice_get-get_or, slice_get_within}
use Rattle.rw_schema.specs.declared.ids.ArrowId.{ArrowId}
use Rattle.rw_schema.specs.declared.parts.Equation.{Equation}
use Rattle.rw_schema.specs.declared.signature.ArrowEnds.{ArrowEnds}
use Rattle.rw_schema.specs.First.{map_in}
use Rattle.rw_schema.specs.RowLists.{list_at}
use Rattle.rw_schema.specs.Signature.{Signature, IsCategory, IsPath}
use Rattle.rw_schema.proofs.Lists.{length_map_in, get_or_map_in}
use Rattle.rw_schema.proofs.Paths.{item_at}
use Rattle.rw_spec.specs.Distinct.{AreDistinct}
use Rattle.rw_spec.specs.Instance.{Instance, Has, follow}
use Rattle.rw_spec.specs.Natural.{Map}
use Rattle.rw_spec.proofs.Look.{contains_found, found_contained}
use Rattle.rw_spec.proofs.Sequences.{contains_here, contains_map, contained_in_map, contains_filter, contained_in_filter, contains_flat_map, contained_in_flat_map, contains_at, list_all_contained, list_all_from_each}
use Rattle.rw_spec.specs.Redex.{Redex}
use Rattle.rw_copies.specs.Copying.{IsInjectiveMatch, IsOutside, IsFamily, follow_from}
use Rattle.rw_copies.specs.Made.{Made, Kept, Copied, made_host, AreMade}
use Rattle.rw_copies.specs.CopyLists.{is_matched, choices, agrees_on, copy_rows, made_over, made_parts}
use Rattle.rw_spec.specs.Tuples.{tuples}
use Rattle.rw_spec.proofs.EachOnce.{EachOnce, once_from_distinct, once_filter, once_map}
use Rattle.rw_copies.proofs.Distinctness.{AllOnce, one_place, once_flat_map, once_tuples}
use Rattle.rw_spec.proofs.Tuples.{is_tuple, contains_tuple}

-- what a list contains stands at a place
pub place_of_contained : {X : Type 0} (xs : List X) (x : X) → Contains xs x → (p : ℕ) × (slice_get xs p ≡ Some x)
place_of_contained xs x (p, within, there) = (p, slice_get-get_or xs p x within ∙ ap (λ y. Some y) there)

-- the images of left parts are matched
matched_part : (R : Redex) (object g : ℕ) → is_matched R object g ≡ true → (x : ℕ) × Has R.left object x × (R.m object x ≡ g)
matched_part R object g found = contained_in_map (R.m object) (R.left.names object) g (contains_found (map (R.m object) (R.left.names object)) g found)

part_matched : (R : Redex) (object x g : ℕ) → Has R.left object x → R.m object x ≡ g → is_matched R object g ≡ true
part_matched R object x g left is =
    found_contained (map (R.m object) (R.left.names object)) g (subst (λ (y : ℕ). Contains (map (R.m object) (R.left.names object)) y) is (contains_map (R.m object) (R.left.names object) x left))

outside_unmatched : (R : Redex) (object g : ℕ) → is_matched R object g ≡ false → IsOutside R object g
outside_unmatched R object g fails = λ x left is. both_ways (is_matched R object g) fails (part_matched R object x g left is)

unmatched_outside : (R : Redex) (object g : ℕ) → IsOutside R object g → is_matched R object g ≡ false
unmatched_outside R object g outside =
    elim (cases_Bool (is_matched R object g)) [
      | inl found ↦ let part = matched_part R object g found in absurd (outside part.0 part.1 part.2)
      | inr fails ↦ fails
    ]

module _ (C : Signature) (category : IsCategory C) (R : Redex) (match : IsInjectiveMatch C R) (D : Instance) (e : Map) (object : ℕ) (below : object < C.objects) where
  -- the choices of an arrow that leaves the object, and of another
  pub choices_here : (g a : ℕ) (ends : ArrowEnds) → ends.source.0 ≡ object → choices R D e object g a ends ≡ filter (λ v. e ends.target.0 v == R.host.value a g) (D.names ends.target.0)
  choices_here g a ends leaves = rw (eq-eqb ends.source.0 object leaves) refl

  pub choices_other : (g a : ℕ) (ends : ArrowEnds) → ends.source.0 ≢ object → choices R D e object g a ends ≡ 0 ∷ []
  choices_other g a ends other = rw (ne_eqb ends.source.0 object other) refl

  pub choices_at : (g a : ℕ) (ends : ArrowEnds) → slice_get C.arrows a ≡ Some ends → list_at (map_in (choices R D e object g) 0 C.arrows) a ≡ choices R D e object g a ends
  choices_at g a ends there = get_or_map_in (choices R D e object g) 0 C.arrows a ends [] there ∙ ap (λ (n : ℕ). choices R D e object g n ends) (zero-add a)

  -- the item of a tuple at an arrow that leaves the object
  pub item_here : (g : ℕ) (row : List ℕ) → Contains (tuples (map_in (choices R D e object g) 0 C.arrows)) row → (a : ℕ) (ends : ArrowEnds) → slice_get C.arrows a ≡ Some ends
      → Contains (choices R D e object g a ends) (slice_index row a)
  item_here g row there a ends is =
      let tuple = is_tuple (map_in (choices R D e object g) 0 C.arrows) row there in
      let within : a < length (map_in (choices R D e object g) 0 C.arrows) = omega (arith, slice_get_within C.arrows a ends is, length_map_in (choices R D e object g) 0 C.arrows) in
      subst (λ (names : List ℕ). Contains names (slice_index row a)) (choices_at g a ends is) (tuple.items a within)

  -- each row is a family
  row_family : (g : ℕ) (row : List ℕ) → Contains (copy_rows C R D e object g) row → IsFamily C R D e object g (slice_index row)
  row_family g row there =
      let split = contained_in_filter (λ row. list_all (agrees_on D object row) C.equations) (tuples (map_in (choices R D e object g) 0 C.arrows)) row there in
      let chosen : (a : ℕ) (ends : ArrowEnds) → slice_get C.arrows a ≡ Some ends → ends.source.0 ≡ object
      → Has D ends.target.0 (slice_index row a) × ((e ends.target.0 (slice_index row a) == R.host.value a g) ≡ true) =
      λ a ends is leaves. contained_in_filter (λ v. e ends.target.0 v == R.host.value a g) (D.names ends.target.0) (slice_index row a)
      (subst (λ (names : List ℕ). Contains names (slice_index row a)) (choices_here g a ends leaves) (item_here g row split.0 a ends is)) in
      record {
        parts = λ a ends is leaves. (chosen a ends is leaves).0;
        over = λ a ends is leaves. eqb-true (e ends.target.0 (slice_index row a)) (R.host.value a g) (chosen a ends is leaves).1;
        equations = λ n equation is starts.
            let passes = list_all_contained (agrees_on D object row) C.equations equation split.1 (contains_at C.equations n equation is) in
            elim (or_cases (not (equation.object.0 == object)) (follow_from D (slice_index row) equation.left == follow_from D (slice_index row) equation.right) passes) [
              | inl other ↦ absurd (not_both (equation.object.0 == object) (eq-eqb equation.object.0 object starts) other)
              | inr same ↦ eqb-true (follow_from D (slice_index row) equation.left) (follow_from D (slice_index row) equation.right) same
            ];
      }
    where
      not_both : (b : Bool) → b ≡ true → not b ≡ true → ⊥
      not_both true is other = cc
      not_both false is other = cc

  -- the row of a family
  abbrev row_of : (ℕ → ℕ) → List ℕ
  row_of family = map_in (λ a (ends : ArrowEnds). cond (ends.source.0 == object) (family a) 0) 0 C.arrows

  row_item : (family : ℕ → ℕ) (a : ℕ) (ends : ArrowEnds) → slice_get C.arrows a ≡ Some ends → slice_index (row_of family) a ≡ cond (ends.source.0 == object) (family a) 0
  row_item family a ends is =
      get_or_map_in (λ a (ends : ArrowEnds). cond (ends.source.0 == object) (family a) 0) 0 C.arrows a ends 0 is
      ∙ ap (λ (n : ℕ). cond (ends.source.0 == object) (family n) 0) (zero-add a)

  row_is : (family : ℕ → ℕ) (a : ℕ) (ends : ArrowEnds) → slice_get C.arrows a ≡ Some ends → ends.source.0 ≡ object → slice_index (row_of family) a ≡ family a
  row_is family a ends is leaves = row_item family a ends is ∙ rw (eq-eqb ends.source.0 object leaves) refl

  row_follow : (family : ℕ → ℕ) (path : List ArrowId) (to : ℕ) → IsPath C object path to → follow_from D (slice_index (row_of family)) path ≡ follow_from D family path
  row_follow family [] to leads = refl
  row_follow family (a ∷ path) to (ends, there, leaves, leads) = ap (follow D path) (row_is family a.0 ends there leaves)

  family_row : (g : ℕ) (family : ℕ → ℕ) → IsFamily C R D e object g family → Contains (copy_rows C R D e object g) (row_of family)
  family_row g family is =
      contains_filter (λ row. list_all (agrees_on D object row) C.equations) (tuples (map_in (choices R D e object g) 0 C.arrows)) (row_of family)
      (contains_tuple (map_in (choices R D e object g) 0 C.arrows) (row_of family) (record {
        long = length_map_in (λ a (ends : ArrowEnds). cond (ends.source.0 == object) (family a) 0) 0 C.arrows ∙ sym (length_map_in (choices R D e object g) 0 C.arrows);
        items = λ a within.
            let arrow = item_at C.arrows a (omega (arith, within, length_map_in (choices R D e object g) 0 C.arrows)) in
            let ends : ArrowEnds = arrow.0 in
            subst (λ (names : List ℕ). Contains names (slice_index (row_of family) a)) (sym (choices_at g a ends arrow.1)) (chosen a ends arrow.1);
      }))
      (list_all_from_each (agrees_on D object (row_of family)) C.equations (λ n equation there. passes n equation there))
    where
      chosen : (a : ℕ) (ends : ArrowEnds) → slice_get C.arrows a ≡ Some ends → Contains (choices R D e object g a ends) (slice_index (row_of family) a)
      chosen a ends there =
          elim (cases_eq ends.source.0 object) [
            | inl leaves ↦
                rw (choices_here g a ends leaves, row_is family a ends there leaves)
                (contains_filter (λ v. e ends.target.0 v == R.host.value a g) (D.names ends.target.0) (family a) (is.parts a ends there leaves)
                (eq-eqb (e ends.target.0 (family a)) (R.host.value a g) (is.over a ends there leaves)))
            | inr other ↦
                let none : slice_index (row_of family) a ≡ 0 = row_item family a ends there ∙ rw (ne_eqb ends.source.0 object other) refl in
                rw (choices_other g a ends other, none) (contains_here 0 [])
          ]

      passes : (n : ℕ) (equation : Equation) → slice_get C.equations n ≡ Some equation → agrees_on D object (row_of family) equation ≡ true
      passes n equation there =
          elim (cases_eq equation.object.0 object) [
            | inl starts ↦
                let paths = category.paths n equation there in
                let same = row_follow family equation.left paths.0 (subst (λ (o : ℕ). IsPath C o equation.left paths.0) starts paths.1) ∙ is.equations n equation there starts
                ∙ sym (row_follow family equation.right paths.0 (subst (λ (o : ℕ). IsPath C o equation.right paths.0) starts paths.2)) in
                or_right (not (equation.object.0 == object)) (follow_from D (slice_index (row_of family)) equation.left == follow_from D (slice_index (row_of family)) equation.right)
                (eq-eqb (follow_from D (slice_index (row_of family)) equation.left) (follow_from D (slice_index (row_of family)) equation.right) same)
            | inr other ↦
                or_left (not (equation.object.0 == object)) (follow_from D (slice_index (row_of family)) equation.left == follow_from D (slice_index (row_of family)) equation.right)
                (rw (ne_eqb equation.object.0 object other) refl)
          ]

  -- what is made over a host part
  pub over_matched : (g : ℕ) → is_matched R object g ≡ true → made_over C R D e object g ≡ map Kept (filter (λ z. R.m object (R.l object z) == g) (R.keep.names object))
  over_matched g is = rw is refl

  pub over_outside : (g : ℕ) → is_matched R object g ≡ false → made_over C R D e object g ≡ map (Copied g) (copy_rows C R D e object g)
  over_outside g is = rw is refl

  -- a part that is made is a kept part over a matched host part, or a copy of another
  pub made_cases : (g : ℕ) (made : Made) → Contains (made_over C R D e object g) made
      → ((z : ℕ) × (Kept z ≡ made) × Has R.keep object z × (R.m object (R.l object z) ≡ g))
      ⊎ ((row : List ℕ) × (Copied g row ≡ made) × (is_matched R object g ≡ false) × Contains (copy_rows C R D e object g) row)
  made_cases g made there =
      elim (cases_Bool (is_matched R object g)) [
        | inl is ↦
            let found = contained_in_map Kept (filter (λ z. R.m object (R.l object z) == g) (R.keep.names object)) made (subst (λ (xs : List Made). Contains xs made) (over_matched g is) there) in
            let split = contained_in_filter (λ z. R.m object (R.l object z) == g) (R.keep.names object) found.0 found.1 in
            inl (found.0, found.2, split.0, eqb-true (R.m object (R.l object found.0)) g split.1)
        | inr fails ↦
            let found = contained_in_map (Copied g) (copy_rows C R D e object g) made (subst (λ (xs : List Made). Contains xs made) (over_outside g fails) there) in
            inr (found.0, found.2, fails, found.1)
      ]

  -- each tells the host part that it is over
  pub tells_host : (g : ℕ) (made : Made) → Contains (made_over C R D e object g) made → made_host R object made ≡ g
  tells_host g made there =
      elim (made_cases g made there) [
        | inl (z, is, has, over) ↦ ap (made_host R object) (sym is) ∙ over
        | inr (row, is, fails, in_rows) ↦ ap (made_host R object) (sym is)
      ]

  -- what is made has each part once, where names stand once
  module _ (hosts : AreDistinct (R.host.names object)) (keeps : AreDistinct (R.keep.names object))
      (parts : (a : ℕ) (ends : ArrowEnds) → slice_get C.arrows a ≡ Some ends → ends.source.0 ≡ object → AreDistinct (D.names ends.target.0)) where
    all_choices_once : (g i : ℕ) (arrows : List ArrowEnds) → ((n : ℕ) (ends : ArrowEnds) → slice_get arrows n ≡ Some ends → slice_get C.arrows (i + n) ≡ Some ends) → AllOnce (map_in (choices R D e object g) i arrows)
    all_choices_once g i [] there = tt
    all_choices_once g i (ends ∷ arrows) there = (
      elim (cases_eq ends.source.0 object) [
        | inl leaves ↦
            rw (choices_here g i ends leaves) (once_filter (λ v. e ends.target.0 v == R.host.value i g) (D.names ends.target.0) (once_from_distinct (D.names ends.target.0) (parts (i + 0) ends (there 0 ends refl) leaves)))
        | inr other ↦ rw (choices_other g i ends other) ((λ here. omega (arith, here.1)), tt)
      ],
      all_choices_once g (i + 1) arrows (λ n other is.
          let same : (i + 1) + n ≡ i + suc n = omega arith in
          subst (λ (m : ℕ). slice_get C.arrows m ≡ Some other) (sym same) (there (suc n) other is)),
    )

    pub once_over : (g : ℕ) → EachOnce (made_over C R D e object g)
    once_over g =
        elim (cases_Bool (is_matched R object g)) [
          | inl is ↦
              rw (over_matched g is) (once_map Kept (filter (λ z. R.m object (R.l object z) == g) (R.keep.names object)) (λ x y same. let one : x ≡ y = cc in one)
              (once_filter (λ z. R.m object (R.l object z) == g) (R.keep.names object) (once_from_distinct (R.keep.names object) keeps)))
          | inr fails ↦
              rw (over_outside g fails) (once_map (Copied g) (copy_rows C R D e object g) (λ x y same. let one : x ≡ y = cc in one)
              (once_filter (λ row. list_all (agrees_on D object row) C.equations) (tuples (map_in (choices R D e object g) 0 C.arrows))
              (once_tuples (map_in (choices R D e object g) 0 C.arrows) (all_choices_once g 0 C.arrows (λ n ends is. subst (λ (m : ℕ). slice_get C.arrows m ≡ Some ends) (sym (zero-add n)) is)))))
        ]

    made_once : EachOnce (made_parts C R D e object)
    made_once = once_flat_map (made_over C R D e object) (made_host R object) (R.host.names object) (once_from_distinct (R.host.names object) hosts) once_over tells_host

-- lists of one length with the same items are one
same_list : (xs ys : List ℕ) → length xs ≡ length ys → ((k : ℕ) → k < length xs → slice_index xs k ≡ slice_index ys k) → xs ≡ ys
same_list [] [] long same = refl
same_list [] (y ∷ ys) long same = absurd (omega arith)
same_list (x ∷ xs) [] long same = absurd (omega arith)
same_list (x ∷ xs) (y ∷ ys) long same =
    let first : x ≡ y = same zero (omega arith) in
    let rest : xs ≡ ys = same_list xs ys (omega arith) (λ k within. same (suc k) (omega arith)) in
    cc

module _ (C : Signature) (category : IsCategory C) (R : Redex) (match : IsInjectiveMatch C R) (D : Instance) (e : Map) (object : ℕ) (below : object < C.objects) where
  -- a kept part in the list, and a copy
  listed_kept : (z : ℕ) → Contains (made_parts C R D e object) (Kept z) → Has R.keep object z
  listed_kept z there =
      let found = contained_in_flat_map (made_over C R D e object) (R.host.names object) (Kept z) there in
      elim (made_cases C category R match D e object below found.0 (Kept z) found.2) [
        | inl (y, is, has, over) ↦ let one : y ≡ z = cc in subst (λ (n : ℕ). Has R.keep object n) one has
        | inr (row, is, fails, in_rows) ↦ let never : ⊥ = cc in absurd never
      ]

  listed_copied : (g : ℕ) (row : List ℕ) → Contains (made_parts C R D e object) (Copied g row) → Has R.host object g × (is_matched R object g ≡ false) × Contains (copy_rows C R D e object g) row
  listed_copied g row there =
      let found = contained_in_flat_map (made_over C R D e object) (R.host.names object) (Copied g row) there in
      elim (made_cases C category R match D e object below found.0 (Copied g row) found.2) [
        | inl (y, is, has, over) ↦ let never : ⊥ = cc in absurd never
        | inr (other, is, fails, in_rows) ↦
            let host : found.0 ≡ g = cc in
            let rows : other ≡ row = cc in (
              subst (λ (n : ℕ). Has R.host object n) host found.1,
              subst (λ (n : ℕ). is_matched R object n ≡ false) host fails,
              subst (λ (n : ℕ). Contains (copy_rows C R D e object n) row) host (subst (λ (r : List ℕ). Contains (copy_rows C R D e object found.0) r) rows in_rows),
            )
      ]

  -- rows that say the same of the arrows that leave the object are one
  rows_same : (g : ℕ) (row other : List ℕ) → Contains (copy_rows C R D e object g) row → Contains (copy_rows C R D e object g) other
      → ((a : ℕ) (ends : ArrowEnds) → slice_get C.arrows a ≡ Some ends → ends.source.0 ≡ object → slice_index row a ≡ slice_index other a) → row ≡ other
  rows_same g row other first second same =
      let first_in = (contained_in_filter (λ row. list_all (agrees_on D object row) C.equations) (tuples (map_in (choices R D e object g) 0 C.arrows)) row first).0 in
      let second_in = (contained_in_filter (λ row. list_all (agrees_on D object row) C.equations) (tuples (map_in (choices R D e object g) 0 C.arrows)) other second).0 in
      let first_tuple = is_tuple (map_in (choices R D e object g) 0 C.arrows) row first_in in
      let second_tuple = is_tuple (map_in (choices R D e object g) 0 C.arrows) other second_in in
      same_list row other (first_tuple.long ∙ sym second_tuple.long) (λ a within.
      let arrow = item_at C.arrows a (omega (arith, within, first_tuple.long, length_map_in (choices R D e object g) 0 C.arrows)) in
      let ends : ArrowEnds = arrow.0 in
      elim (cases_eq ends.source.0 object) [
        | inl leaves ↦ same a ends arrow.1 leaves
        | inr differs ↦
            let one = subst (λ (xs : List ℕ). Contains xs (slice_index row a)) (choices_other C category R match D e object below g a ends differs)
            (item_here C category R match D e object below g row first_in a ends arrow.1) in
            let two = subst (λ (xs : List ℕ). Contains xs (slice_index other a)) (choices_other C category R match D e object below g a ends differs)
            (item_here C category R match D e object below g other second_in a ends arrow.1) in
            sym (only (slice_index row a) one) ∙ only (slice_index other a) two
      ])
    where
      only : (x : ℕ) → Contains (0 ∷ []) x → 0 ≡ x
      only x (zero, within, there) = there
      only x (suc k, within, there) = absurd (omega arith)

  -- the list is what has to be made
  pub made_parts_made : AreDistinct (R.host.names object) → AreDistinct (R.keep.names object)
      → ((a : ℕ) (ends : ArrowEnds) → slice_get C.arrows a ≡ Some ends → ends.source.0 ≡ object → AreDistinct (D.names ends.target.0)) → AreMade C R D e object (made_parts C R D e object)
  made_parts_made hosts keeps parts =
      let once : EachOnce (made_parts C R D e object) = made_once C category R match D e object below hosts keeps parts in
      record {
        kept = λ p z there. listed_kept z (contains_at (made_parts C R D e object) p (Kept z) there);
        copied = λ p g row there.
            let facts = listed_copied g row (contains_at (made_parts C R D e object) p (Copied g row) there) in
            (facts.0, outside_unmatched R object g facts.1, row_family C category R match D e object below g row facts.2);
        all_kept = λ z has.
            let g : ℕ = R.m object (R.l object z) in
            let left = match.l.natural.parts object z below has in
            place_of_contained (made_parts C R D e object) (Kept z)
            (contains_flat_map (made_over C R D e object) (R.host.names object) g (Kept z) (match.m.parts object (R.l object z) below left)
            (rw (over_matched C category R match D e object below g (part_matched R object (R.l object z) g left refl))
            (contains_map Kept (filter (λ z. R.m object (R.l object z) == g) (R.keep.names object)) z
            (contains_filter (λ z. R.m object (R.l object z) == g) (R.keep.names object) z has (eq-eqb g g refl)))));
        all_copied = λ g family has outside is.
            let row : List ℕ = row_of C category R match D e object below family in
            let there : Contains (made_parts C R D e object) (Copied g row) =
            contains_flat_map (made_over C R D e object) (R.host.names object) g (Copied g row) has
            (rw (over_outside C category R match D e object below g (unmatched_outside R object g outside))
            (contains_map (Copied g) (copy_rows C R D e object g) row (family_row C category R match D e object below g family is))) in
            let place = place_of_contained (made_parts C R D e object) (Copied g row) there in
            (place.0, row, place.1, λ a ends arrow leaves. row_is C category R match D e object below family a ends arrow leaves);
        kept_once = λ p q z first second. one_place (made_parts C R D e object) once p q (Kept z) first second;
        copied_once = λ p q g row other first second same.
            let in_first = (listed_copied g row (contains_at (made_parts C R D e object) p (Copied g row) first)).2 in
            let in_second = (listed_copied g other (contains_at (made_parts C R D e object) q (Copied g other) second)).2 in
            let one : row ≡ other = rows_same g row other in_first in_second same in
            one_place (made_parts C R D e object) once p q (Copied g row) first (second ∙ ap (λ (r : List ℕ). Some (Copied g r)) (sym one));
      }

-- a list with the same items, each once, is what has to be made as well
pub made_rearranged : (C : Signature) (R : Redex) (D : Instance) (e : Map) (object : ℕ) (xs ys : List Made) → AreMade C R D e object xs
    → ((m : Made) → Contains xs m → Contains ys m) → ((m : Made) → Contains ys m → Contains xs m) → EachOnce ys → AreMade C R D e object ys
made_rearranged C R D e object xs ys made there back once = record {
  kept = λ p z is. let place = place_of_contained xs (Kept z) (back (Kept z) (contains_at ys p (Kept z) is)) in made.kept place.0 z place.1;
  copied = λ p g row is. let place = place_of_contained xs (Copied g row) (back (Copied g row) (contains_at ys p (Copied g row) is)) in made.copied place.0 g row place.1;
  all_kept = λ z has. let found = made.all_kept z has in place_of_contained ys (Kept z) (there (Kept z) (contains_at xs found.0 (Kept z) found.1));
  all_copied = λ g family has outside is.
      let found = made.all_copied g family has outside is in
      let place = place_of_contained ys (Copied g found.1) (there (Copied g found.1) (contains_at xs found.0 (Copied g found.1) found.2)) in
      (place.0, found.1, place.1, found.3);
  kept_once = λ p q z first second. one_place ys once p q (Kept z) first second;
  copied_once = λ p q g row other first second same.
      let in_first = place_of_contained xs (Copied g row) (back (Copied g row) (contains_at ys p (Copied g row) first)) in
      let in_second = place_of_contained xs (Copied g other) (back (Copied g other) (contains_at ys q (Copied g other) second)) in
      let one : in_first.0 ≡ in_second.0 = made.copied_once in_first.0 in_second.0 g row other in_first.1 in_second.1 same in
      let both : Some (Copied g row) ≡ Some (Copied g other) = sym in_first.1 ∙ ap (slice_get xs) one ∙ in_second.1 in
      let rows : row ≡ other = cc in
      one_place ys once p q (Copied g row) first (second ∙ ap (λ (r : List ℕ). Some (Copied g r)) (sym rows));
}
