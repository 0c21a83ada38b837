-- The next names of a step are those that are looked at before it: each new part that stays takes one.
use Rattle.std.proofs.Common.{◌≡◌, ◌∙◌, ◌==◌, ◌<◌, ◌+◌, ◌&&◌, ℕ, Bool, true, false, not, filter, length, List, [], ◌∷◌, refl, sym, ap, subst, inl, inr, slice_index, eqb-true}
use Rattle.std.specs.List.{list_any}
use Rattle.std.proofs.lemmas.Bool.{both_ways, cases_Bool, eq-eqb}
use Rattle.rw_schema.specs.RowLists.{RowLists}
use Rattle.rw_schema.specs.Signature.{Signature}
use Rattle.rw_spec.specs.Instance.{Instance}
use Rattle.rw_spec.proofs.Sequences.{contained_in_filter, contains_filter, filter_same}
use Rattle.rw_pattern.specs.MapFaults.{image_of}
use Rattle.rw_pattern.specs.PatternLists.{size_of}
use Rattle.rw_pattern.proofs.PartNames.{has_part, part_below}
use Rattle.rw_terms.specs.declared.code.OpCode.{OpCode}
use Rattle.rw_rule.specs.Images.{is_image, parts_of}
use Rattle.rw_rule.specs.RuleLists.{RuleLists}
use Rattle.rw_complement.specs.Named.{is_new, new_parts}
use Rattle.rw_complement.proofs.Tests.{none_of, some_at}
use Rattle.rw_redex.specs.RuleParts.{IsSpanOver}
use Rattle.rw_redex.proofs.Parts.{image_found, image_from}
use Rattle.rw_redex.proofs.RuleMaps.{keep_known, right_shape}
use Rattle.rw_partial.specs.SinglePushout.{frame_of_pair}
use Rattle.rw_partial.specs.SubInstance.{Elements}
use Rattle.rw_single.specs.Instantiated.{applied_of}
use Rattle.rw_single.specs.Obstructions.{new_parts_in, next_after_pair}
use Rattle.rw_single.specs.Step.{IsSingleStep}

-- two filters are one by both tests
filter_twice : (p q : ℕ → Bool) (xs : List ℕ) → filter p (filter q xs) ≡ filter (λ x. q x && p x) xs
filter_twice p q [] = refl
filter_twice p q (x ∷ xs) =
    elim (cases_Bool (q x)) [
      | inl is ↦
          elim (cases_Bool (p x)) [
            | inl passes ↦ rw (is, passes, filter_twice p q xs) refl
            | inr fails ↦ rw (is, fails, filter_twice p q xs) refl
          ]
      | inr is ↦ rw (is, filter_twice p q xs) refl
    ]

module _ (C : Signature) (codes : List OpCode) (rule : RuleLists) (tuple : List ℕ) (X : Instance) (over : IsSpanOver C rule) (D R : Elements) where
  -- a right part that stays is new exactly where it is no image
  new_is : (object y : ℕ) → object < C.objects → R.part object y ≡ true
      → is_new (frame_of_pair (applied_of codes rule tuple X) D R) object y ≡ not (is_image rule.r object y)
  new_is object y known stays =
      let test : ℕ → Bool = λ z. image_of rule.r object z == y in
      let in_set : ℕ → Bool = λ z. R.part object (image_of rule.r object z) in
      let kept : List ℕ = parts_of rule.keep object in
      ap not (elim (cases_Bool (is_image rule.r object y)) [
        | inl so ↦
            let from = image_from rule.keep rule.r object y (right_shape C rule over) (keep_known C rule object over known) so in
            some_at test (filter in_set kept) from.0
            (contains_filter in_set kept from.0 (has_part rule.keep object from.0 from.1) (subst (λ (part : ℕ). R.part object part ≡ true) (sym from.2) stays))
            (eq-eqb (image_of rule.r object from.0) y from.2) ∙ sym so
        | inr fails ↦
            none_of test (filter in_set kept) (λ z has passes.
            both_ways (is_image rule.r object y) fails
            (subst (λ (y : ℕ). is_image rule.r object y ≡ true) (eqb-true (image_of rule.r object z) y passes)
            (image_found rule.keep rule.r object z (right_shape C rule over) (keep_known C rule object over known)
            (part_below rule.keep object z (contained_in_filter in_set kept z has).0))))
            ∙ sym fails
      ])

  -- so the new parts of the frame are the new parts of the rule that stay
  pub new_parts_are : (object : ℕ) → object < C.objects → new_parts (frame_of_pair (applied_of codes rule tuple X) D R) object ≡ new_parts_in rule R object
  new_parts_are object known =
      let new : ℕ → Bool = is_new (frame_of_pair (applied_of codes rule tuple X) D R) object in
      let fresh : ℕ → Bool = λ part. not (is_image rule.r object part) in
      filter_twice new (R.part object) (parts_of rule.right object)
      ∙ filter_same (λ y. R.part object y && new y) (λ y. fresh y && R.part object y) (parts_of rule.right object) (λ y has. both y (R.part object y) refl)
      ∙ sym (filter_twice (R.part object) fresh (parts_of rule.right object))
    where
      swap : (first : Bool) → first ≡ (first && true)
      swap true = refl
      swap false = refl

      none : (first : Bool) → false ≡ (first && false)
      none true = refl
      none false = refl

      both : (y : ℕ) (stays : Bool) → R.part object y ≡ stays
          → (R.part object y && is_new (frame_of_pair (applied_of codes rule tuple X) D R) object y) ≡ (not (is_image rule.r object y) && R.part object y)
      both y true is = rw (is, new_is object y known is) (swap (not (is_image rule.r object y)))
      both y false is = rw is (none (not (is_image rule.r object y)))

-- the next names after a step
pub next_of_step : (C : Signature) (codes : List OpCode) (rule : RuleLists) (tuple : List ℕ) (X : Instance) (next : List ℕ) → IsSpanOver C rule
    → (after : RowLists) (step : IsSingleStep C codes rule X next tuple after) → (object : ℕ) → object < C.objects
    → slice_index after.next object ≡ next_after_pair rule step.pushout.right next object
next_of_step C codes rule tuple X next over after step object known =
    step.pushout.grown object known
    ∙ ap (λ (parts : List ℕ). slice_index next object + length parts) (new_parts_are C codes rule tuple X over step.pushout.host step.pushout.right object known)
