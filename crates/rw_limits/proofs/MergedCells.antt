-- What merging the cells of a span says of the classes and of their clashes.
use Rattle.std.proofs.Common.{◌≡◌, ◌∙◌, ℕ, ◌^◌, ◌<◌, ◌≤◌, List, [], length, get_or, map, Option, Some, None, slice_get, refl, ap, sym, subst, inl, inr, zero-add, arith}
use Rattle.std.proofs.lemmas.Bool.{cases_lt}
use Rattle.std.proofs.lemmas.List.{length-map, get_or-map}
use Rattle.std.proofs.lemmas.List.Elements.{All-from_get_or}
use Rattle.std.proofs.lemmas.Option.{same_Some, slice_get_within}
use Rattle.rw_schema.specs.declared.atom.Atom.{Atom}
use Rattle.rw_schema.specs.declared.signature.AttrEnds.{AttrEnds}
use Rattle.rw_schema.specs.First.{map_in}
use Rattle.rw_schema.specs.RowLists.{RowLists, list_at}
use Rattle.rw_schema.specs.Signature.{Signature}
use Rattle.rw_schema.proofs.Lists.{get_or_map_in}
use Rattle.rw_spec.specs.Instance.{look}
use Rattle.rw_spec.proofs.Signatures.{holder_is}
use Rattle.rw_table.proofs.Checked.{checked_known, shape_known, names_apart, cells_whole}
use Rattle.rw_limits.specs.inner.ClassTables.{first_cell, merged_cells}
use Rattle.rw_classes.specs.Clashes.{both_cells, CanMerge, MergesAt, MergesEach, IsFirstOf, FirstOf}
use Rattle.rw_classes.specs.Merging.{AreMerged, IsClash, cell_at}
use Rattle.rw_classes.specs.FirstClash.{AreClassesOf, IsEarlierPlace, IsClashAt, IsFirstClash}
use Rattle.rw_classes.specs.Places.{count_at, cell_of, either}
use Rattle.rw_limits.specs.Spans.{AreClassCells}
use Rattle.rw_limits.specs.inner.Spans.{span_frame, IsSpan}
use Rattle.rw_classes.specs.declared.clashes.ClashAt.{ClashAt}
use Rattle.rw_classes.specs.declared.merge.Difference.{Difference}
use Rattle.rw_classes.specs.declared.merge.Merged.{Merged}
use Rattle.rw_classes.specs.declared.merge.Merged.TheVariants.{Firsts, Differ}
use Rattle.rw_classes.proofs.ClashCells.{cells_beside_names, clash_of_same, no_clash_merged, atom_of_first}
use Rattle.rw_classes.proofs.Merging.{first_or_none}

-- the cells of the classes are those of their first parts that have atoms
class_cells_from : (cells : ℕ → Option Atom) (list : List (Option Atom)) (count : ℕ) (numbers firsts : List ℕ) (places : List (Option ℕ))
    → length numbers ≡ count → ((e : ℕ) → e < count → get_or numbers e 0 < length firsts)
    → ((e : ℕ) → e < length numbers → cell_at list e ≡ cells e) → AreMerged (cell_at list) numbers (length firsts) places
    → AreClassCells count numbers firsts cells (map (first_cell list) places)
class_cells_from cells list count numbers firsts places each within same merged = record {
  each = length-map places (first_cell list) ∙ merged.each;
  kept = λ e atom below has.
      let class_within : get_or numbers e 0 < length firsts = within e below in
      let long : length places ≡ length firsts = merged.each in
      let first = atom_of_first (cell_at list) numbers (length firsts) places e atom merged (omega arith) (same e (omega arith) ∙ has) in
      get_or-map (first_cell list) places (get_or numbers e 0) None None (omega arith) ∙ ap (first_cell list) first.1 ∙ first.2;
  from = λ w atom below has.
      let long : length places ≡ length firsts = merged.each in
      let found : first_cell list (get_or places w None) ≡ Some atom = sym (get_or-map (first_cell list) places w None None (omega arith)) ∙ has in
      elim (first_or_none (get_or places w None)) [
        | inl first ↦
            let place_within : first.0 < length numbers = merged.found.below w first.0 first.1 in
            (first.0, omega arith, (merged.found.found w first.0 first.1).class, sym (same first.0 place_within) ∙ sym (ap (first_cell list) first.1) ∙ found)
        | inr none ↦ let blank : None ≡ Some atom = sym (ap (first_cell list) none) ∙ found in cc
      ];
}

-- what comes before a place comes before it also at a lesser class
before_lower : (o w c o' w' c' v : ℕ) → v ≤ w → IsEarlierPlace o w c o' w' c' → IsEarlierPlace o v c o' w' c'
before_lower o w c o' w' c' v lower before =
    elim before [
      | inl less ↦ inl less
      | inr parts ↦ elim parts.1 [
        | inl less ↦ inr (parts.0, inl (omega arith))
        | inr last ↦
            let equal : w ≡ w' = last.0 in
            elim (cases_lt v w') [
              | inl less ↦ inr (parts.0, inl less)
              | inr more ↦ inr (parts.0, inr (omega arith, last.1))
            ]
      ]
    ]

-- an atom that two equations give is one
one_atom : (cell : Option Atom) (a b : Atom) → cell ≡ Some a → cell ≡ Some b → a ≡ b
one_atom cell a b first second = same_Some a b (sym first ∙ second)

-- a span, the classes of what it joins, and what merging the cells gave
module _ (C : Signature) (apex left right : RowLists) (f g : List (List ℕ)) (span : IsSpan C apex left right f g)
    (numbers firsts : List (List ℕ)) (numbers_long : length numbers ≡ C.objects) (firsts_long : length firsts ≡ C.objects)
    (classes : AreClassesOf C (span_frame C apex left right f g) numbers firsts)
  where
    -- the cells of each attribute can be merged
    pub can_merge : (c : ℕ) (ends : AttrEnds) → slice_get C.attributes c ≡ Some ends → CanMerge left right numbers firsts c ends
    can_merge c ends there =
        let object : ℕ = ends.object.0 in
        let known : object < C.objects = span.category.holders c ends there in
        let left_checked = checked_known C left span.left_sound in
        let right_checked = checked_known C right span.right_sound in
        let left_long : length left.cells ≡ length C.attributes = (shape_known C left left_checked.shape).cells in
        let right_long : length right.cells ≡ length C.attributes = (shape_known C right right_checked.shape).cells in
        let attribute_known : c < length C.attributes = slice_get_within C.attributes c ends there in
        let numbered = (classes object known).numbered in
        let count : length (list_at numbers object) ≡ count_at (span_frame C apex left right f g) object = numbered.each in
        let few : count_at (span_frame C apex left right f g) object < 2 ^ 32 = span.few object known in
        let left_cells : length (list_at left.cells c) ≡ length (list_at left.names object) = cells_whole C left c ends left_checked.shape there in
        let right_cells : length (list_at right.cells c) ≡ length (list_at right.names object) = cells_whole C right c ends right_checked.shape there in
        record {
          left_cells = omega arith;
          right_cells = omega arith;
          numbered = omega arith;
          begun = omega arith;
          each = omega arith;
          within = All-from_get_or (λ class. class < length (list_at firsts object)) (list_at numbers object) 0
              (λ k within. numbered.within k (omega arith));
          few = rw count few;
        }

    -- the cells of the lists are those of the frame
    cells_are : (c : ℕ) (ends : AttrEnds) → slice_get C.attributes c ≡ Some ends → (e : ℕ) → e < length (list_at numbers ends.object.0)
        → cell_at (both_cells left right c) e ≡ cell_of (span_frame C apex left right f g) ends.object.0 c e
    cells_are c ends there e within =
        let object : ℕ = ends.object.0 in
        let known : object < C.objects = span.category.holders c ends there in
        let count : length (list_at numbers object) ≡ count_at (span_frame C apex left right f g) object = (classes object known).numbered.each in
        let left_cells : length (list_at left.cells c) ≡ length (list_at left.names object) = cells_whole C left c ends (checked_known C left span.left_sound).shape there in
        cells_beside_names (list_at left.names object) (list_at right.names object) (list_at left.cells c) (list_at right.cells c)
        (names_apart C left object span.left_sound) (names_apart C right object span.right_sound) left_cells e (omega arith)
        ∙ ap (λ (holder : ℕ). either (list_at left.names object) (list_at right.names object)
        (look None (list_at left.names holder) (list_at left.cells c)) (look None (list_at right.names holder) (list_at right.cells c)) e) (sym (holder_is C c ends there))

    -- where no attribute has a clash, the cells are those of classes
    pub cells_of_classes : (merged : List Merged) → length merged ≡ length C.attributes → MergesEach left right numbers firsts C.attributes merged
        → FirstOf (length C.attributes) C.attributes merged None → (c : ℕ) (ends : AttrEnds) → slice_get C.attributes c ≡ Some ends
        → AreClassCells (count_at (span_frame C apex left right f g) ends.object.0) (list_at numbers ends.object.0) (list_at firsts ends.object.0)
        (cell_of (span_frame C apex left right f g) ends.object.0 c) (list_at (map_in (λ c each. merged_cells (both_cells left right c) each) 0 merged) c)
    cells_of_classes merged long merges none c ends there =
        let known : c < length C.attributes = slice_get_within C.attributes c ends there in
        let found = merges c ends (omega arith) there in
        each_cells c ends there found.0 (λ difference differs. none c ends difference known there (found.1 ∙ ap (λ each. Some each) differs)) found.2
        (get_or_map_in (λ c each. merged_cells (both_cells left right c) each) 0 merged c found.0 [] found.1 ∙ ap (λ k. merged_cells (both_cells left right k) found.0) (zero-add c))
      where
        each_cells : (c : ℕ) (ends : AttrEnds) → slice_get C.attributes c ≡ Some ends → (each : Merged) → ((difference : Difference) → each ≡ Differ difference → ⊥)
            → MergesAt left right numbers firsts c ends each → {cells : List (Option Atom)} → cells ≡ merged_cells (both_cells left right c) each
            → AreClassCells (count_at (span_frame C apex left right f g) ends.object.0) (list_at numbers ends.object.0) (list_at firsts ends.object.0)
            (cell_of (span_frame C apex left right f g) ends.object.0 c) cells
        each_cells c ends there (Differ difference) same merges {cells} is = absurd (same difference refl)
        each_cells c ends there (Firsts places) same merges {cells} is =
            let object : ℕ = ends.object.0 in
            let object_known : object < C.objects = span.category.holders c ends there in
            let numbered = (classes object object_known).numbered in
            subst (λ list. AreClassCells (count_at (span_frame C apex left right f g) object) (list_at numbers object) (list_at firsts object) (cell_of (span_frame C apex left right f g) object c) list) (sym is)
            (class_cells_from (cell_of (span_frame C apex left right f g) object c) (both_cells left right c) (count_at (span_frame C apex left right f g) object)
            (list_at numbers object) (list_at firsts object) places.items numbered.each numbered.within (cells_are c ends there) merges)

    -- a clash of the parts is a clash among the cells of both lists
    clash_among_lists : (c w : ℕ) (ends : AttrEnds) (a b : Atom) → slice_get C.attributes c ≡ Some ends
        → (clash : IsClashAt (span_frame C apex left right f g) (list_at numbers ends.object.0) ends.object.0 c w a b)
        → IsClash (cell_at (both_cells left right c)) (list_at numbers ends.object.0) w clash.0 clash.1 a b
    clash_among_lists c w ends a b there (first, second, clash) =
        clash_of_same (cell_of (span_frame C apex left right f g) ends.object.0 c) (cell_at (both_cells left right c)) (list_at numbers ends.object.0) w first second a b
        (λ e within. sym (cells_are c ends there e within)) clash

    -- a clash that is not before the first of all attributes' merges is not before it
    not_earlier : (each : Merged) (c w : ℕ) (ends : AttrEnds) (a b : Atom) (object' w' c' : ℕ) → slice_get C.attributes c ≡ Some ends
        → MergesAt left right numbers firsts c ends each
        → ((difference : Difference) → each ≡ Differ difference → IsEarlierPlace ends.object.0 difference.class c object' w' c' → ⊥)
        → IsClashAt (span_frame C apex left right f g) (list_at numbers ends.object.0) ends.object.0 c w a b → IsEarlierPlace ends.object.0 w c object' w' c' → ⊥
    not_earlier (Firsts places) c w ends a b object' w' c' there merges least clash before =
        no_clash_merged (cell_at (both_cells left right c)) (list_at numbers ends.object.0) (length (list_at firsts ends.object.0)) places.items w clash.0 clash.1 a b merges
        (clash_among_lists c w ends a b there clash)
    not_earlier (Differ difference) c w ends a b object' w' c' there merges least clash before =
        elim (cases_lt w difference.class) [
          | inl earlier ↦
              merges.1 w clash.0 clash.1 a b earlier
              (clash_among_lists c w ends a b there clash)
          | inr later ↦ least difference refl (before_lower ends.object.0 w c object' w' c' difference.class later before)
        ]

    -- the first clash of the attributes' merges is the first clash
    pub first_clash_is : (merged : List Merged) (clash : ClashAt) (a b : Atom) → length merged ≡ length C.attributes
        → MergesEach left right numbers firsts C.attributes merged → IsFirstOf (length C.attributes) C.attributes merged clash
        → cell_at (both_cells left right clash.attr.0) clash.difference.first ≡ Some a → cell_at (both_cells left right clash.attr.0) clash.difference.second ≡ Some b
        → IsFirstClash C (span_frame C apex left right f g) numbers clash.object.0 clash.difference.class clash.attr.0 a b
    first_clash_is merged clash a b long merges first first_atom second_atom =
        let F = span_frame C apex left right f g in
        let c : ℕ = clash.attr.0 in
        let ends : AttrEnds = first.ends in
        let object_is : ends.object.0 ≡ clash.object.0 = ap (λ object. object.0) first.holder in
        let known : c < length C.attributes = slice_get_within C.attributes c ends first.there in
        let found = merges c ends (omega arith) first.there in
        let differs : found.0 ≡ Differ clash.difference = same_Some found.0 (Differ clash.difference) (sym found.1 ∙ first.differs) in
        let merges_here : MergesAt left right numbers firsts c ends (Differ clash.difference) = subst (λ each. MergesAt left right numbers firsts c ends each) differs found.2 in
        let there = merges_here.0 in
        let parts_clash : IsClashAt F (list_at numbers ends.object.0) ends.object.0 c clash.difference.class there.0 there.1 = (
          clash.difference.first,
          clash.difference.second,
          clash_of_same (cell_at (both_cells left right c)) (cell_of F ends.object.0 c) (list_at numbers ends.object.0) clash.difference.class clash.difference.first clash.difference.second
              there.0 there.1 (cells_are c ends first.there) there.2,
        ) in
        let a_is : there.0 ≡ a = one_atom (cell_at (both_cells left right c) clash.difference.first) there.0 a there.2.first_atom first_atom in
        let b_is : there.1 ≡ b = one_atom (cell_at (both_cells left right c) clash.difference.second) there.1 b there.2.second_atom second_atom in
        record {
          ends = ends;
          there = first.there;
          holder = object_is;
          clash = subst (λ (object : ℕ). IsClashAt F (list_at numbers object) object c clash.difference.class a b) object_is
              (subst (λ atom. IsClashAt F (list_at numbers ends.object.0) ends.object.0 c clash.difference.class a atom) b_is
              (subst (λ atom. IsClashAt F (list_at numbers ends.object.0) ends.object.0 c clash.difference.class atom there.1) a_is parts_clash));
          least = λ object' w' c' ends' a' b' there' holder' clash' before.
              let known' : c' < length C.attributes = slice_get_within C.attributes c' ends' there' in
              let found' = merges c' ends' (omega arith) there' in
              not_earlier found'.0 c' w' ends' a' b' clash.object.0 clash.difference.class c there' found'.2
              (λ difference same. first.least c' ends' difference known' there' (found'.1 ∙ ap (λ each. Some each) same))
              (subst (λ (object : ℕ). IsClashAt F (list_at numbers object) object c' w' a' b') (sym holder') clash')
              (subst (λ (object : ℕ). IsEarlierPlace object w' c' clash.object.0 clash.difference.class c) (sym holder') before);
        }
