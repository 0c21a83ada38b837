-- What the code has of a step's frame, in the words of its definitions.
use Rattle.std.proofs.Common.{◌≡◌, ◌∙◌, ◌==◌, ◌<◌, ℕ, Bool, true, not, List, [], ◌∷◌, filter, length, Option, Some, slice_get, refl, sym, ap, subst, inl, inr, eqb-true}
use Rattle.std.specs.List.{range_with_len}
use Rattle.std.proofs.lemmas.Bool.{both_ways, cases_Bool, eq-eqb}
use Rattle.rw_schema.specs.declared.atom.Atom.{Atom}
use Rattle.rw_schema.specs.declared.signature.AttrEnds.{AttrEnds}
use Rattle.rw_schema.specs.Signature.{Signature, IsCategory}
use Rattle.rw_spec.specs.Cocone.{Frame}
use Rattle.rw_spec.specs.Instance.{Instance}
use Rattle.rw_pattern.specs.MapFaults.{image_of}
use Rattle.rw_pattern.specs.PatternLists.{size_of}
use Rattle.rw_pattern.proofs.PartNames.{part_below, has_part}
use Rattle.rw_terms.specs.declared.code.OpCode.{OpCode}
use Rattle.rw_classes.specs.Merging.{AreMerged}
use Rattle.rw_classes.specs.Places.{count_at, cell_of}
use Rattle.rw_rule.specs.Images.{is_image, parts_of}
use Rattle.rw_rule.specs.RuleLists.{RuleLists}
use Rattle.rw_redex.specs.NewParts as rule_parts
use Rattle.rw_redex.specs.RuleParts.{IsSpanOver}
use Rattle.rw_redex.proofs.Parts.{image_from, image_found}
use Rattle.rw_redex.proofs.RuleMaps.{keep_known, right_shape}
use Rattle.rw_complement.specs.Named.{is_new, new_parts}
use Rattle.rw_complement.proofs.Tests.{some_at, none_of}
use Rattle.rw_glued.specs.Result.{Classing, HaveOneAtom}
use Rattle.rw_redex.specs.Verdicts.{step_frame}

-- a right part is new exactly where it is no image
new_is : (C : Signature) (codes : List OpCode) (rule : RuleLists) (tuple : List ℕ) (X : Instance) (object y : ℕ) → IsSpanOver C rule → object < C.objects
    → is_new (step_frame C codes rule tuple X) object y ≡ not (is_image rule.r object y)
new_is C codes rule tuple X object y over known =
    let test : ℕ → Bool = λ z. image_of rule.r object z == y in
    let parts : List ℕ = range_with_len 0 (size_of rule.keep object) in
    ap not (elim (cases_Bool (is_image rule.r object y)) [
      | inl so ↦
          let from = image_from rule.keep rule.r object y (right_shape C rule over) (keep_known C rule object over known) so in
          some_at test parts from.0 (has_part rule.keep object from.0 from.1) (eq-eqb (image_of rule.r object from.0) y from.2) ∙ sym so
      | inr fails ↦
          none_of test parts (λ z has passes.
          both_ways (is_image rule.r object y) fails
          (subst (λ (y : ℕ). is_image rule.r object y ≡ true) (eqb-true (image_of rule.r object z) y passes)
          (image_found rule.keep rule.r object z (right_shape C rule over) (keep_known C rule object over known) (part_below rule.keep object z has))))
          ∙ sym fails
    ])

-- filters by tests that agree are one
filter_same : (p q : ℕ → Bool) (xs : List ℕ) → ((x : ℕ) → p x ≡ q x) → filter p xs ≡ filter q xs
filter_same p q [] same = refl
filter_same p q (x ∷ xs) same = rw (same x, filter_same p q xs same) refl

-- the new parts are those of the rule, and so are the next names afterwards
pub new_parts_are : (C : Signature) (codes : List OpCode) (rule : RuleLists) (tuple : List ℕ) (X : Instance) (object : ℕ) → IsSpanOver C rule → object < C.objects
    → new_parts (step_frame C codes rule tuple X) object ≡ rule_parts.new_parts rule object
new_parts_are C codes rule tuple X object over known =
    filter_same (is_new (step_frame C codes rule tuple X) object) (λ part. not (is_image rule.r object part)) (parts_of rule.right object)
    (λ y. new_is C codes rule tuple X object y over known)

-- where the cells of each attribute were merged, the atoms of each class are one
pub one_atom_merged : (C : Signature) → IsCategory C → (F : Frame) (numbers : Classing)
    → ((object : ℕ) → object < C.objects → length (numbers object) ≡ count_at F object)
    → ((c : ℕ) (ends : AttrEnds) → slice_get C.attributes c ≡ Some ends
    → (classes : ℕ) × (firsts : List (Option ℕ)) × (cells : ℕ → Option Atom) × AreMerged cells (numbers ends.object.0) classes firsts
    × ((e : ℕ) → e < count_at F ends.object.0 → cells e ≡ cell_of F ends.object.0 c e))
    → HaveOneAtom C F numbers
one_atom_merged C category F numbers each merged c ends e other a b there within other_within same is other_is =
    let found = merged c ends there in
    let long : length (numbers ends.object.0) ≡ count_at F ends.object.0 = each ends.object.0 (category.holders c ends there) in
    found.3.same e other a b (rw long within) (rw long other_within) same (found.4 e within ∙ is) (found.4 other other_within ∙ other_is)
