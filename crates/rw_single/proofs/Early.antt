-- What obstructs a match before atoms are compared depends on the elements of the largest pair alone, and is a set without a value
-- or too many names.
use Rattle.std.proofs.Common.{◌≡◌, ◌==◌, ◌+◌, ◌≤◌, ◌&&◌, ℕ, Bool, not, nat_le, filter, length, List, [], ◌∷◌, Option, Some, None, slice_index, true, false, ◌∙◌, sym, ap, subst, inl, inr, arith}
use Rattle.std.specs.List.{range_with_len}
use Rattle.std.proofs.lemmas.Bool.{cases_lt}
use Rattle.std.proofs.lemmas.List.{get_or_past}
use Rattle.rw_schema.specs.declared.signature.AttrEnds.{AttrEnds}
use Rattle.rw_schema.specs.First.{fault_unless, first_in, or_else}
use Rattle.rw_schema.specs.Signature.{Signature}
use Rattle.rw_schema.proofs.Firsts.{first_same}
use Rattle.rw_spec.specs.Instance.{Instance}
use Rattle.rw_spec.proofs.Sequences.{contained_in_filter, filter_same}
use Rattle.rw_pattern.specs.PatternLists.{size_of}
use Rattle.rw_terms.specs.declared.code.OpCode.{OpCode}
use Rattle.rw_rule.specs.Images.{is_image, parts_of}
use Rattle.rw_rule.specs.RuleLists.{RuleLists}
use Rattle.rw_rule.specs.declared.refusal.Refusal.{Refusal}
use Rattle.rw_rule.specs.declared.refusal.Refusal.TheVariants.{Identification, Dangling, NoValue, TooLarge, Clash}
use Rattle.rw_redex.specs.NewParts.{new_parts}
use Rattle.rw_redex.specs.Obstructions.{most_names}
use Rattle.rw_redex.specs.RuleParts.{IsSpanOver}
use Rattle.rw_redex.specs.SetValues.{lacks_value, no_value, no_value_on}
use Rattle.rw_redex.proofs.RuleMaps.{right_is}
use Rattle.rw_partial.specs.SubInstance.{AreSameElements, Elements}
use Rattle.rw_single.specs.Instantiated.{applied_of}
use Rattle.rw_single.specs.Obstructions.{early_pair, new_parts_in, next_after_pair, too_large_pair}

-- past the objects there are no new parts
none_past : (C : Signature) (rule : RuleLists) (right : Elements) (object : ℕ) → IsSpanOver C rule → C.objects ≤ object → new_parts_in rule right object ≡ []
none_past C rule right object over past =
    let none : size_of rule.right object ≡ 0 = get_or_past rule.right.sizes object 0 (omega (arith, past, (right_is C rule over).sizes_long)) in
    ap (λ (size : ℕ). filter (right.part object) (filter (λ part. not (is_image rule.r object part)) (range_with_len 0 size))) none

-- sets with the same elements have the same new parts
new_parts_same : (C : Signature) (codes : List OpCode) (rule : RuleLists) (tuple : List ℕ) (X : Instance) (right other : Elements) → IsSpanOver C rule
    → AreSameElements C (applied_of codes rule tuple X).right right other → (object : ℕ) → new_parts_in rule right object ≡ new_parts_in rule other object
new_parts_same C codes rule tuple X right other over same object =
    elim (cases_lt object C.objects) [
      | inl known ↦
          filter_same (right.part object) (other.part object) (new_parts rule object)
          (λ y has. same.parts object y known (contained_in_filter (λ part. not (is_image rule.r object part)) (parts_of rule.right object) y has).0)
      | inr past ↦ none_past C rule right object over past ∙ sym (none_past C rule other object over past)
    ]

-- so what obstructs is the same
pub early_same : (C : Signature) (codes : List OpCode) (rule : RuleLists) (tuple : List ℕ) (X : Instance) (next : List ℕ) (right other : Elements) → IsSpanOver C rule
    → AreSameElements C (applied_of codes rule tuple X).right right other → early_pair C codes rule tuple X next right ≡ early_pair C codes rule tuple X next other
early_same C codes rule tuple X next right other over same =
    ap (or_else (no_value C codes rule tuple X))
    (first_same (λ object name. fault_unless (nat_le (next_after_pair rule right next object) most_names) (TooLarge (record { 0 = object })))
    (λ object name. fault_unless (nat_le (next_after_pair rule other next object) most_names) (TooLarge (record { 0 = object }))) 0 next
    (λ object name.
    ap (λ (parts : List ℕ). fault_unless (nat_le (slice_index next object + length parts) most_names) (TooLarge (record { 0 = object })))
    (new_parts_same C codes rule tuple X right other over same object)))

-- what is found by the one or by the other has what both findings have
found_by_either : {A : Type 0} (P : A → Type 0) (one other : Option A) → ((a : A) → one ≡ Some a → P a) → ((a : A) → other ≡ Some a → P a)
    → (a : A) → or_else one other ≡ Some a → P a
found_by_either P None other first second a is = second a is
found_by_either P (Some b) other first second a is = first a is

-- what is found first in a list has what each finding has
found_in : {X A : Type 0} (P : A → Type 0) (f : ℕ → X → Option A) → ((place : ℕ) (x : X) (a : A) → f place x ≡ Some a → P a)
    → (i : ℕ) (xs : List X) (a : A) → first_in f i xs ≡ Some a → P a
found_in P f each i [] a is = let no : ⊥ = cc in absurd no
found_in P f each i (x ∷ xs) a is = found_by_either P (f i x) (first_in f (i + 1) xs) (each i x) (found_in P f each (i + 1) xs) a is

-- a fault that is found has what it has
found_fault : {A : Type 0} (P : A → Type 0) (passes : Bool) (fault a : A) → P fault → fault_unless passes fault ≡ Some a → P a
found_fault P true fault a has is = let no : ⊥ = cc in absurd no
found_fault P false fault a has is = let same : fault ≡ a = cc in subst P same has

-- the refusal is for want of a value or of names
abbrev pub IsEarly : Refusal → Type 0
IsEarly (Identification object first second) = ⊥
IsEarly (Dangling arrow name) = ⊥
IsEarly (NoValue part attr) = Unit {0}
IsEarly (TooLarge object) = Unit {0}
IsEarly (Clash object name attr first second) = ⊥

module _ (C : Signature) (codes : List OpCode) (rule : RuleLists) (tuple : List ℕ) (X : Instance) (next : List ℕ) (right : Elements) where
  -- a set without a value is such
  lacking_is : (refusal : Refusal) → no_value C codes rule tuple X ≡ Some refusal → IsEarly refusal
  lacking_is refusal is =
      found_in IsEarly (λ object size. first_in (λ place part. no_value_on C codes rule tuple X object part) 0 (parts_of rule.right object))
      (λ object size. found_in IsEarly (λ place part. no_value_on C codes rule tuple X object part)
      (λ place part. found_in IsEarly (λ attr (ends : AttrEnds). fault_unless (not (ends.object.0 == object && lacks_value codes rule tuple X attr part)) (NoValue part (record { 0 = attr })))
      (λ attr ends a. found_fault IsEarly (not (ends.object.0 == object && lacks_value codes rule tuple X attr part)) (NoValue part (record { 0 = attr })) a tt)
      0 C.attributes)
      0 (parts_of rule.right object))
      0 rule.right.sizes refusal is

  -- and so is an object with too many names
  large_is : (refusal : Refusal) → too_large_pair rule right next ≡ Some refusal → IsEarly refusal
  large_is refusal is =
      found_in IsEarly (λ object (name : ℕ). fault_unless (nat_le (next_after_pair rule right next object) most_names) (TooLarge (record { 0 = object })))
      (λ object name a. found_fault IsEarly (nat_le (next_after_pair rule right next object) most_names) (TooLarge (record { 0 = object })) a tt) 0 next refusal is

  -- and what obstructs before atoms are compared
  pub early_is : (refusal : Refusal) → early_pair C codes rule tuple X next right ≡ Some refusal → IsEarly refusal
  early_is = found_by_either IsEarly (no_value C codes rule tuple X) (too_large_pair rule right next) lacking_is large_is
