-- What a body makes from touched names, preimages of names that are merged away, and the context's lists is the change.
use Rattle.std.proofs.Common.{◌≡◌, ◌≢◌, ◌∙◌, ◌⊎◌, ◌==◌, ◌<◌, ◌≤◌, ◌+◌, ◌&&◌, ℕ, zero, suc, Bool, true, false, not, find, map, List, [], ◌∷◌, Contains, length, Option, Some, None, option_and_then, slice_get, slice_index, slice_index_or, refl, sym, ap, subst, inl, inr, arith, eqb-true}
use Rattle.std.specs.List.{range_with_len}
use Rattle.std.specs.Option.{is_some}
use Rattle.std.proofs.lemmas.Bool.{and_from, and_parts, both_ways, cases_eq, eq-eqb, or_cases, or_left, or_right, not-true, ne_eqb}
use Rattle.std.proofs.lemmas.List.{get_or-map, length-map}
use Rattle.std.proofs.lemmas.Simd.{map-map}
use Rattle.rw_schema.specs.declared.atom.Atom.{Atom}
use Rattle.rw_schema.specs.declared.signature.ArrowEnds.{ArrowEnds}
use Rattle.rw_schema.specs.declared.signature.AttrEnds.{AttrEnds}
use Rattle.rw_schema.specs.RowLists.{list_at}
use Rattle.rw_schema.specs.Signature.{Signature, IsCategory}
use Rattle.rw_spec.specs.Cocone.{Frame}
use Rattle.rw_spec.specs.Instance.{Instance, Has}
use Rattle.rw_spec.specs.Natural.{Map}
use Rattle.rw_spec.specs.Ascending.{ascends}
use Rattle.rw_spec.proofs.Look.{contains_found, found_contained}
use Rattle.rw_spec.proofs.Sequences.{contains_here, contains_later}
use Rattle.rw_spec.proofs.Signatures.{holder_is}
use Rattle.rw_spec.proofs.Ranges.{range_bounds}
use Rattle.rw_classes.specs.Merging.{AreFirsts}
use Rattle.rw_classes.specs.Places.{count_at, cell_of, spot}
use Rattle.rw_classes.proofs.Sides.{spot_at}
use Rattle.rw_columns.specs.Changes.{ChangeLists, staying}
use Rattle.rw_delta.specs.ContextLists.{is_in}
use Rattle.rw_complement.specs.Named.{new_parts}
use Rattle.rw_complement.proofs.Tests.{find_none, there_is}
use Rattle.rw_glued.specs.OneGluing.{IsNaturalFrame}
use Rattle.rw_glued.specs.Result.{Classing, HaveOneAtom, class_atom, class_name, class_names}
use Rattle.rw_glued.proofs.Result.{names_distinct}
use Rattle.rw_local.specs.inner.ChangeTo.{other_values, other_cells}
use Rattle.rw_local.specs.Over.{IsOver}
use Rattle.rw_local.specs.inner.Glued.{local_change, removed_names}
use Rattle.rw_local.specs.inner.Local.{AreCells, AreLocal, IsRenaming, local_cell, only_parts, narrow, new_names, placed, renamed, wanted}
use Rattle.rw_local.proofs.Classes.{cell_other, cell_touched, local_cells, parts_category, parts_joined, renamed_is, renamed_other, small_frame, touched_or_not}
use Rattle.rw_local.proofs.Reached.{cells_local, rows_local, removed_local}
use Rattle.rw_local.proofs.Renamed.{cell_new, value_new}

-- the first of a range that passes is found
pub find_first : (test : ℕ → Bool) (start n place : ℕ) → start ≤ place → place < start + n → test place ≡ true
    → ((e : ℕ) → start ≤ e → e < place → test e ≡ false) → find test (range_with_len start n) ≡ Some place
find_first test start zero place past within passes before = absurd (omega arith)
find_first test start (suc n) place past within passes before =
    elim (cases_eq start place) [
      | inl same ↦ let here : test start ≡ true = subst (λ (k : ℕ). test k ≡ true) (sym same) passes in rw here (ap (λ (k : ℕ). Some k) same)
      | inr other ↦ rw (before start (omega arith) (omega arith))
          (find_first test (start + 1) n place (omega arith) (omega arith) passes (λ e more less. before e (omega arith) less))
    ]

-- the atom of a class is that of its first part with an atom, where the first such parts are known
pub class_atom_is : (F : Frame) (numbers : List ℕ) (object c w : ℕ) (firsts : List (Option ℕ)) → AreFirsts (cell_of F object c) numbers (count_at F object) firsts
    → class_atom F numbers object c w ≡ option_and_then (cell_of F object c) (slice_index_or firsts w None)
class_atom_is F numbers object c w firsts are = at (slice_index_or firsts w None) refl
  where
    at : (found : Option ℕ) → slice_index_or firsts w None ≡ found → class_atom F numbers object c w ≡ option_and_then (cell_of F object c) found
    at None is =
        ap (option_and_then (cell_of F object c))
        (find_none (λ e. slice_index numbers e == w && is_some (cell_of F object c e)) (range_with_len 0 (count_at F object))
        (λ e there passes.
        let both = and_parts (slice_index numbers e == w) (is_some (cell_of F object c e)) passes in
        let class : slice_index numbers e ≡ w = eqb-true (slice_index numbers e) w both.0 in
        let bounds = range_bounds 0 (count_at F object) e there in
        let blank : cell_of F object c e ≡ None = are.missing e (omega (arith, bounds.1)) (ap (λ (w : ℕ). slice_index_or firsts w None) class ∙ is) in
        let has = there_is (cell_of F object c e) both.1 in
        let atom : cell_of F object c e ≡ Some has.0 = has.1 in
        let none : ⊥ = cc in
        none))
    at (Some place) is =
        let first = are.found w place is in
        let below : place < count_at F object = are.below w place is in
        ap (option_and_then (cell_of F object c))
        (find_first (λ e. slice_index numbers e == w && is_some (cell_of F object c e)) 0 (count_at F object) place (omega arith) (omega arith)
        (and_from (slice_index numbers place == w) (is_some (cell_of F object c place)) (eq-eqb (slice_index numbers place) w first.class) (ap is_some first.has))
        (λ e past before.
        elim (cases_eq (slice_index numbers e) w) [
          | inl class ↦ let blank : cell_of F object c e ≡ None = first.earlier e before class in rw (eq-eqb (slice_index numbers e) w class, blank) refl
          | inr other ↦ rw (ne_eqb (slice_index numbers e) w other) refl
        ]))

-- lists that two functions make are one where the functions agree
pub map_same : {A : Type 0} (f g : ℕ → A) (xs : List ℕ) → ((x : ℕ) → Contains xs x → f x ≡ g x) → map f xs ≡ map g xs
map_same f g [] same = refl
map_same f g (x ∷ xs) same =
    let rest : map f xs ≡ map g xs = map_same f g xs (λ y there. same y (contains_later x xs y there)) in
    rw (same x (contains_here x xs), rest) refl

module _ (C : Signature) (category : IsCategory C) (F : Frame) (frame : IsNaturalFrame C F)
    (X : Instance) (gone copies : ℕ → List ℕ) (next next_copied : List ℕ) (over : IsOver C X F.left gone copies next next_copied)
    (touched : ℕ → List ℕ) (numbers firsts : Classing) (local : AreLocal C F next_copied touched numbers firsts)
    (one : HaveOneAtom C (narrow F touched) numbers)
  where
    -- where names of the left side go
    abbrev d : Map
    d = renamed F next_copied touched numbers firsts

    -- where right parts go
    abbrev s : Map
    s = placed F next_copied touched numbers firsts

    -- the cells of names that stay
    abbrev cell : ℕ → ℕ → Option Atom
    cell = local_cell C F next_copied touched numbers firsts

    -- the result
    abbrev result : Instance
    result = wanted C F d s cell

    -- the change
    abbrev change : ChangeLists
    change = local_change C X F touched numbers firsts gone copies next_copied

    -- the names of the host that stay
    abbrev stay : ℕ → List ℕ
    stay object = staying (removed_names X gone d object) (X.names object)

    -- the classes rename the whole
    renaming : IsRenaming C F next_copied d s
    renaming = renamed_is C category F frame next_copied touched numbers firsts local

    -- and give its cells
    cells : AreCells C F d s cell
    cells = local_cells C category F frame next_copied touched numbers firsts local one

    -- a name that is merged away is touched
    pub merged_is_touched : (object x : ℕ) → d object x ≢ x → Contains (touched object) x
    merged_is_touched object x moved =
        elim (touched_or_not C category F frame next_copied touched numbers firsts local object x) [
          | inl there ↦ there
          | inr other ↦ absurd (moved (renamed_other C category F frame next_copied touched numbers firsts local object x other))
        ]

    -- the removed names are the gone ones and the touched ones that are merged away
    pub removed_from_touched : (object : ℕ) (some : List ℕ) → object < C.objects → ascends some ≡ true
        → ((x : ℕ) → Contains some x → Has X object x × (Contains (gone object) x ⊎ (Contains (touched object) x × (d object x ≢ x))))
        → ((x : ℕ) → Has X object x → Contains (gone object) x → Contains some x)
        → ((x : ℕ) → Has X object x → Contains (touched object) x → d object x ≢ x → Contains some x)
        → some ≡ removed_names X gone d object
    removed_from_touched object some known up each all_gone all_merged =
        removed_local C category F frame X gone copies next next_copied over local.right_ascends d s renaming object some known up
        (λ x there.
        let has = each x there in (
          has.0,
          elim has.1 [
            | inl lost ↦ or_left (is_in (gone object) x) (not (d object x == x)) (found_contained (gone object) x lost)
            | inr (small, moved) ↦ or_right (is_in (gone object) x) (not (d object x == x)) (ap not (ne_eqb (d object x) x moved))
          ],
        ))
        (λ x has passes.
        elim (or_cases (is_in (gone object) x) (not (d object x == x)) passes) [
          | inl lost ↦ all_gone x has (contains_found (gone object) x lost)
          | inr moved ↦
              let away : d object x ≢ x = λ same. both_ways (d object x == x) (not-true (d object x == x) moved) (eq-eqb (d object x) x same) in
              all_merged x has (merged_is_touched object x away) away
        ])

    -- rows: of the names that stay some, among them those that the context changed and those that led to names merged away
    pub rows_from_preimages : (a : ℕ) (ends : ArrowEnds) (some : List ℕ) → slice_get C.arrows a ≡ Some ends → ascends some ≡ true
        → ((x : ℕ) → Contains some x → Contains (stay ends.source.0) x)
        → ((x : ℕ) → Contains (stay ends.source.0) x → F.left.value a x ≢ X.value a x → Contains some x)
        → ((x : ℕ) → Contains (stay ends.source.0) x → Contains (touched ends.target.0) (F.left.value a x)
        → d ends.target.0 (F.left.value a x) ≢ F.left.value a x → Contains some x)
        → list_at change.rows a ≡ other_values (X.value a) (result.value a) some
    rows_from_preimages a ends some there up within changed led =
        rows_local C category F frame X gone copies next next_copied over local.right_ascends d s renaming cell cells a ends some there up within
        (λ x stays other.
        let absent : Contains some x → ⊥ = λ has. both_ways (is_in some x) other (found_contained some x has) in (
          elim (cases_eq (F.left.value a x) (X.value a x)) [ inl same ↦ same | inr differs ↦ absurd (absent (changed x stays differs)) ],
          elim (cases_eq (d ends.target.0 (F.left.value a x)) (F.left.value a x)) [
            | inl same ↦ same
            | inr moved ↦ absurd (absent (led x stays (merged_is_touched ends.target.0 (F.left.value a x) moved) moved))
          ],
        ))

    -- cells: of the names that stay some, among them the touched ones and those that the context blanked
    pub cells_from_touched : (c : ℕ) (ends : AttrEnds) (some : List ℕ) → slice_get C.attributes c ≡ Some ends → ascends some ≡ true
        → ((x : ℕ) → Contains some x → Contains (stay ends.object.0) x)
        → ((x : ℕ) → Contains (stay ends.object.0) x → is_in some x ≡ false → (is_in (touched ends.object.0) x ≡ false) × (F.left.cell c x ≡ X.cell c x))
        → list_at change.cells c ≡ other_cells (X.cell c) (result.cell c) some
    cells_from_touched c ends some there up within others =
        cells_local C category F frame X gone copies next next_copied over local.right_ascends d s renaming cell cells c ends some there up within
        (λ x stays other.
        let known = others x stays other in
        cell_other C category F frame next_copied touched numbers firsts local one c ends x there known.0 ∙ known.1)

    -- rows of new parts
    pub new_row : (a : ℕ) (ends : ArrowEnds) → slice_get C.arrows a ≡ Some ends
        → map (result.value a) (new_names F s ends.source.0) ≡ map (λ y. s ends.target.0 (F.right.value a y)) (new_parts F ends.source.0)
    new_row a ends there =
        map-map (result.value a) (s ends.source.0) (new_parts F ends.source.0)
        ∙ map_same (λ y. result.value a (s ends.source.0 y)) (λ y. s ends.target.0 (F.right.value a y)) (new_parts F ends.source.0)
        (λ y has. value_new C category F frame next_copied local.below d s renaming cell a ends y there has)

    -- and their cells
    pub new_cells : (c : ℕ) (ends : AttrEnds) → slice_get C.attributes c ≡ Some ends
        → map (result.cell c) (new_names F s ends.object.0) ≡ map (F.right.cell c) (new_parts F ends.object.0)
    new_cells c ends there =
        map-map (result.cell c) (s ends.object.0) (new_parts F ends.object.0)
        ∙ map_same (λ y. result.cell c (s ends.object.0 y)) (F.right.cell c) (new_parts F ends.object.0)
        (λ y has. cell_new C category F frame next_copied local.below d s renaming cell c ends y there has)

    -- the cell of a name that stays and is that of a class is the class's
    pub cell_of_class : (c : ℕ) (ends : AttrEnds) (k : ℕ) → slice_get C.attributes c ≡ Some ends → k < length (firsts ends.object.0)
        → Contains (touched ends.object.0) (class_name (narrow F touched) next_copied ends.object.0 (slice_index (firsts ends.object.0) k))
        → cell c (class_name (narrow F touched) next_copied ends.object.0 (slice_index (firsts ends.object.0) k))
        ≡ class_atom (narrow F touched) (numbers ends.object.0) ends.object.0 c k
    cell_of_class c ends k there within touches =
        let small = small_frame C category F frame next_copied touched numbers firsts local in
        let G : Frame = narrow F touched in
        let object : ℕ = ends.object.0 in
        let known : object < C.objects = category.holders c ends there in
        let w : ℕ = class_name G next_copied object (slice_index (firsts object) k) in
        let named : slice_index (class_names G next_copied firsts object) k ≡ w = get_or-map (class_name G next_copied object) (firsts object) k 0 0 within in
        let long : length (class_names G next_copied firsts object) ≡ length (firsts object) = length-map (firsts object) (class_name G next_copied object) in
        let distinct =
        names_distinct (only_parts C) (parts_category C category) G
        small.left small.right small.apex small.to_left small.to_right next_copied numbers firsts
        (parts_joined C category F frame next_copied touched numbers firsts local) object known in
        cell_touched C category F frame next_copied touched numbers firsts local one c ends w there touches
        ∙ ap (λ (o : ℕ). class_atom G (numbers o) o c (spot (class_names G next_copied firsts o) w)) (holder_is C c ends there)
        ∙ ap (λ (name : ℕ). class_atom G (numbers object) object c (spot (class_names G next_copied firsts object) name)) (sym named)
        ∙ ap (class_atom G (numbers object) object c) (spot_at (class_names G next_copied firsts object) k distinct (omega arith))
