-- What the merges of the cells of two lists say of the classes of a frame whose cells they are.
use Rattle.std.proofs.Common.{◌≡◌, ◌∙◌, ◌<◌, ◌≤◌, ℕ, List, Option, Some, length, refl, sym, ap, subst, inl, inr, arith, slice_get}
use Rattle.std.proofs.lemmas.Bool.{cases_lt}
use Rattle.std.proofs.lemmas.Option.{same_Some, slice_get_within}
use Rattle.rw_schema.specs.declared.atom.Atom.{Atom}
use Rattle.rw_schema.specs.declared.signature.AttrEnds.{AttrEnds}
use Rattle.rw_schema.specs.RowLists.{RowLists, list_at}
use Rattle.rw_schema.specs.Signature.{Signature}
use Rattle.rw_spec.specs.Cocone.{Frame}
use Rattle.rw_classes.specs.Clashes.{both_cells, MergesAt, MergesEach, IsFirstOf}
use Rattle.rw_classes.specs.FirstClash.{IsEarlierPlace, IsClashAt, IsFirstClash}
use Rattle.rw_classes.specs.Merging.{IsClash, cell_at}
use Rattle.rw_classes.specs.Places.{cell_of}
use Rattle.rw_classes.specs.declared.clashes.ClashAt.{ClashAt}
use Rattle.rw_classes.specs.declared.merge.Difference.{Difference}
use Rattle.rw_classes.specs.declared.merge.Merged.{Merged}
use Rattle.rw_classes.specs.declared.merge.Merged.TheVariants.{Firsts, Differ}
use Rattle.rw_classes.proofs.ClashCells.{clash_of_same, no_clash_merged}

-- what comes before a place comes before it also at a lesser class
before_lower : (o w c o' w' c' v : ℕ) → v ≤ w → IsEarlierPlace o w c o' w' c' → IsEarlierPlace o v c o' w' c'
before_lower o w c o' w' c' v lower before =
    elim before [
      | inl less ↦ inl less
      | inr parts ↦ elim parts.1 [
        | inl less ↦ inr (parts.0, inl (omega arith))
        | inr last ↦
            let equal : w ≡ w' = last.0 in
            elim (cases_lt v w') [
              | inl less ↦ inr (parts.0, inl less)
              | inr more ↦ inr (parts.0, inr (omega arith, last.1))
            ]
      ]
    ]

-- an atom that two equations give is one
one_atom : (cell : Option Atom) (a b : Atom) → cell ≡ Some a → cell ≡ Some b → a ≡ b
one_atom cell a b first second = same_Some a b (sym first ∙ second)

-- two lists, the classes of a frame, and what merging the cells gave
module _ (C : Signature) (F : Frame) (left right : RowLists) (numbers firsts : List (List ℕ))
    (cells_are : (c : ℕ) (ends : AttrEnds) → slice_get C.attributes c ≡ Some ends → (e : ℕ) → e < length (list_at numbers ends.object.0)
    → cell_at (both_cells left right c) e ≡ cell_of F ends.object.0 c e)
  where
    -- a clash of the parts is a clash among the cells of both lists
    clash_among_lists : (c w : ℕ) (ends : AttrEnds) (a b : Atom) → slice_get C.attributes c ≡ Some ends
        → (clash : IsClashAt F (list_at numbers ends.object.0) ends.object.0 c w a b)
        → IsClash (cell_at (both_cells left right c)) (list_at numbers ends.object.0) w clash.0 clash.1 a b
    clash_among_lists c w ends a b there (first, second, clash) =
        clash_of_same (cell_of F ends.object.0 c) (cell_at (both_cells left right c)) (list_at numbers ends.object.0) w first second a b
        (λ e within. sym (cells_are c ends there e within)) clash

    -- a clash that is not before the first of all attributes' merges is not before it
    not_earlier : (each : Merged) (c w : ℕ) (ends : AttrEnds) (a b : Atom) (object' w' c' : ℕ) → slice_get C.attributes c ≡ Some ends
        → MergesAt left right numbers firsts c ends each
        → ((difference : Difference) → each ≡ Differ difference → IsEarlierPlace ends.object.0 difference.class c object' w' c' → ⊥)
        → IsClashAt F (list_at numbers ends.object.0) ends.object.0 c w a b → IsEarlierPlace ends.object.0 w c object' w' c' → ⊥
    not_earlier (Firsts places) c w ends a b object' w' c' there merges least clash before =
        no_clash_merged (cell_at (both_cells left right c)) (list_at numbers ends.object.0) (length (list_at firsts ends.object.0)) places.items w clash.0 clash.1 a b merges
        (clash_among_lists c w ends a b there clash)
    not_earlier (Differ difference) c w ends a b object' w' c' there merges least clash before =
        elim (cases_lt w difference.class) [
          | inl earlier ↦
              merges.1 w clash.0 clash.1 a b earlier
              (clash_among_lists c w ends a b there clash)
          | inr later ↦ least difference refl (before_lower ends.object.0 w c object' w' c' difference.class later before)
        ]

    -- the first clash of the attributes' merges is the first clash
    pub first_clash_is : (merged : List Merged) (clash : ClashAt) (a b : Atom) → length merged ≡ length C.attributes
        → MergesEach left right numbers firsts C.attributes merged → IsFirstOf (length C.attributes) C.attributes merged clash
        → cell_at (both_cells left right clash.attr.0) clash.difference.first ≡ Some a → cell_at (both_cells left right clash.attr.0) clash.difference.second ≡ Some b
        → IsFirstClash C F numbers clash.object.0 clash.difference.class clash.attr.0 a b
    first_clash_is merged clash a b long merges first first_atom second_atom =
        let c : ℕ = clash.attr.0 in
        let ends : AttrEnds = first.ends in
        let object_is : ends.object.0 ≡ clash.object.0 = ap (λ object. object.0) first.holder in
        let known : c < length C.attributes = slice_get_within C.attributes c ends first.there in
        let found = merges c ends (omega arith) first.there in
        let differs : found.0 ≡ Differ clash.difference = same_Some found.0 (Differ clash.difference) (sym found.1 ∙ first.differs) in
        let merges_here : MergesAt left right numbers firsts c ends (Differ clash.difference) = subst (λ each. MergesAt left right numbers firsts c ends each) differs found.2 in
        let there = merges_here.0 in
        let parts_clash : IsClashAt F (list_at numbers ends.object.0) ends.object.0 c clash.difference.class there.0 there.1 = (
          clash.difference.first,
          clash.difference.second,
          clash_of_same (cell_at (both_cells left right c)) (cell_of F ends.object.0 c) (list_at numbers ends.object.0) clash.difference.class clash.difference.first clash.difference.second
              there.0 there.1 (cells_are c ends first.there) there.2,
        ) in
        let a_is : there.0 ≡ a = one_atom (cell_at (both_cells left right c) clash.difference.first) there.0 a there.2.first_atom first_atom in
        let b_is : there.1 ≡ b = one_atom (cell_at (both_cells left right c) clash.difference.second) there.1 b there.2.second_atom second_atom in
        record {
          ends = ends;
          there = first.there;
          holder = object_is;
          clash = subst (λ (object : ℕ). IsClashAt F (list_at numbers object) object c clash.difference.class a b) object_is
              (subst (λ atom. IsClashAt F (list_at numbers ends.object.0) ends.object.0 c clash.difference.class a atom) b_is
              (subst (λ atom. IsClashAt F (list_at numbers ends.object.0) ends.object.0 c clash.difference.class atom there.1) a_is parts_clash));
          least = λ object' w' c' ends' a' b' there' holder' clash' before.
              let known' : c' < length C.attributes = slice_get_within C.attributes c' ends' there' in
              let found' = merges c' ends' (omega arith) there' in
              not_earlier found'.0 c' w' ends' a' b' clash.object.0 clash.difference.class c there' found'.2
              (λ difference same. first.least c' ends' difference known' there' (found'.1 ∙ ap (λ each. Some each) same))
              (subst (λ (object : ℕ). IsClashAt F (list_at numbers object) object c' w' a' b') (sym holder') clash')
              (subst (λ (object : ℕ). IsEarlierPlace object w' c' clash.object.0 clash.difference.class c) (sym holder') before);
        }
