-- The right side of a rule at a match is an instance, to which what is kept maps naturally.
use Rattle.std.proofs.Common.{◌≡◌, ◌∙◌, ◌==◌, ℕ, zero, suc, Bool, true, find, length, List, [], ◌∷◌, Option, Some, None, option_and_then, slice_get, refl, sym, ap, inl, inr, eqb-true}
use Rattle.std.proofs.lemmas.Bool.{and_parts, cases_Bool}
use Rattle.rw_schema.specs.declared.signature.AttrEnds.{AttrEnds}
use Rattle.rw_schema.specs.Signature.{Signature}
use Rattle.rw_spec.specs.Instance.{Instance, IsInstance}
use Rattle.rw_spec.specs.Natural.{IsNatural}
use Rattle.rw_pattern.specs.MapFaults.{image_of}
use Rattle.rw_pattern.specs.PatternLists.{instance_of_pattern}
use Rattle.rw_pattern.proofs.PatternInstance.{pattern_instance}
use Rattle.rw_terms.specs.declared.code.OpCode.{OpCode}
use Rattle.rw_rule.specs.RuleLists.{RuleLists}
use Rattle.rw_rule.specs.Sets.{is_on_cell}
use Rattle.rw_rule.specs.declared.set.SetCell.{SetCell}
use Rattle.rw_redex.specs.SetValues.{set_value}
use Rattle.rw_redex.proofs.RuleKnown.{IsKnown}
use Rattle.rw_redex.proofs.RuleMaps.{right_natural}
use Rattle.rw_redex.proofs.SetKinds.{IsMet, set_known}
use Rattle.rw_redex.specs.Instantiated.{keep_at, right_at}

-- what is found first is in the list, and passes the test
pub found_known : {X : Type 0} (test : X → Bool) (xs : List X) (x : X) → find test xs ≡ Some x → (place : ℕ) × (slice_get xs place ≡ Some x) × (test x ≡ true)
found_known test [] x found = cc
found_known test (y ∷ xs) x found =
    elim (cases_Bool (test y)) [
      | inl passes ↦
          let here : Some y ≡ Some x = rw passes at found in
          let same : y ≡ x = cc in
          (zero, here, rw (← same) passes)
      | inr fails ↦ let later = found_known test xs x (rw fails at found) in (suc later.0, later.1, later.2)
    ]

-- what is there of what was found
valued : {X A : Type 0} (f : X → Option A) (found : Option X) (a : A) → option_and_then f found ≡ Some a → (x : X) × (found ≡ Some x) × (f x ≡ Some a)
valued f None a is = let no : ⊥ = cc in absurd no
valued f (Some x) a is = (x, refl, is)

-- the right side is an instance: values of sets are of their attributes' kinds
pub right_instance : (C : Signature) (codes : List OpCode) (rule : RuleLists) (tuple : List ℕ) (X : Instance) → IsKnown C (length codes) rule → IsMet C rule tuple X
    → IsInstance C (right_at codes rule tuple X)
right_instance C codes rule tuple X known met =
    let is : IsInstance C (instance_of_pattern rule.right) = pattern_instance C [] rule.right met.category known.span.parts.right in
    record {
      values = is.values;
      atoms = λ c ends y atom there has holds.
          let found = valued (set_value codes rule tuple X) (find (is_on_cell c y) rule.sets) atom holds in
          let set : SetCell = found.0 in
          let at = found_known (is_on_cell c y) rule.sets set found.1 in
          let on : set.attr.0 ≡ c = eqb-true set.attr.0 c (and_parts (set.attr.0 == c) (set.part == y) at.2).0 in
          let own = set_known C codes rule tuple X known met at.0 set at.1 in
          let same : Some own.ends ≡ Some ends = sym own.there ∙ ap (slice_get C.attributes) on ∙ there in
          let equal : own.ends ≡ ends = cc in
          own.term.value atom found.2 ∙ ap (λ (ends : AttrEnds). ends.kind) equal;
      equations = is.equations;
    }

-- what is kept maps to it naturally
pub keep_to_right : (C : Signature) (codes : List OpCode) (rule : RuleLists) (tuple : List ℕ) (X : Instance) (ops : ℕ) → IsKnown C ops rule
    → IsNatural C (keep_at rule tuple X) (right_at codes rule tuple X) (image_of rule.r)
keep_to_right C codes rule tuple X ops known =
    let natural = right_natural C rule known.span in
    record { parts = natural.parts; commutes = natural.commutes }
