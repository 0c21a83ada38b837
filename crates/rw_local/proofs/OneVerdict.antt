-- Each match has exactly one verdict.
use Rattle.std.proofs.Common.{◌≡◌, ◌⊎◌, ◌<◌, ◌+◌, ◌==◌, ◌&&◌, ℕ, Bool, not, nat_le, true, false, Contains, List, None, Option, Some, [], ◌∷◌, inl, inr, length, refl, slice_index, subst}
use Rattle.rw_schema.specs.declared.signature.AttrEnds.{AttrEnds}
use Rattle.rw_schema.specs.First.{first_in, fault_unless, or_else}
use Rattle.rw_schema.specs.Signature.{IsCategory, Signature}
use Rattle.rw_spec.specs.Ascending.{ascends}
use Rattle.rw_spec.specs.Instance.{Has, Instance}
use Rattle.rw_columns.specs.Changes.{ChangeLists}
use Rattle.rw_pattern.specs.Matches.{matches}
use Rattle.rw_terms.specs.declared.code.OpCode.{OpCode}
use Rattle.rw_rule.specs.declared.kind.RuleKind.TheVariants.{Dpo}
use Rattle.rw_rule.specs.declared.refusal.Refusal.{Refusal}
use Rattle.rw_rule.specs.declared.refusal.Refusal.TheVariants.{Identification, Dangling, NoValue, TooLarge, Clash}
use Rattle.rw_rule.specs.Images.{is_injective, parts_of}
use Rattle.rw_rule.specs.RuleFaults.{IsRuleOver}
use Rattle.rw_rule.specs.RuleLists.{RuleLists}
use Rattle.rw_redex.specs.Gluing.{identification, identification_at, identification_of, identifies}
use Rattle.rw_redex.specs.NewParts.{next_after}
use Rattle.rw_redex.specs.Obstructions.{dangles, dangling, dangling_at, most_names, too_large}
use Rattle.rw_redex.specs.SetValues.{lacks_value, no_value, no_value_on}
use Rattle.rw_redex.specs.Verdicts.{Obstructs, early}
use Rattle.rw_redex.proofs.MatchLaws.{dpo_injective, verdicts_agree}
use Rattle.rw_redex.proofs.RuleKnown.{IsKnown, rule_known}
use Rattle.rw_redex.proofs.SetKinds.{IsMet, met_by_match}
use Rattle.rw_local.specs.OneVerdict.{HaveOneVerdict, IsChangeOfStep}
use Rattle.rw_local.proofs.StepChange.{change_or_clash, step_from_answer}

-- what is found by the one or by the other has what both findings have
found_by_either : {A : Type 0} (P : A → Type 0) (one other : Option A) → ((a : A) → one ≡ Some a → P a) → ((a : A) → other ≡ Some a → P a)
    → (a : A) → or_else one other ≡ Some a → P a
found_by_either P None other first second a is = second a is
found_by_either P (Some b) other first second a is = first a is

-- what is found first in a list has what each finding has
found_in : {X A : Type 0} (P : A → Type 0) (f : ℕ → X → Option A) → ((place : ℕ) (x : X) (a : A) → f place x ≡ Some a → P a)
    → (i : ℕ) (xs : List X) (a : A) → first_in f i xs ≡ Some a → P a
found_in P f each i [] a is = let no : ⊥ = cc in absurd no
found_in P f each i (x ∷ xs) a is = found_by_either P (f i x) (first_in f (i + 1) xs) (each i x) (found_in P f each (i + 1) xs) a is

-- a fault that is found in a list has what each fault has
found_fault : {X A : Type 0} (P : A → Type 0) (test : ℕ → X → Bool) (fault : ℕ → X → A) → ((place : ℕ) (x : X) → P (fault place x))
    → (xs : List X) (a : A) → first_in (λ place x. fault_unless (test place x) (fault place x)) 0 xs ≡ Some a → P a
found_fault {X} {A} P test fault has xs a is =
    found_in P (λ place x. fault_unless (test place x) (fault place x)) (λ place x a. at (test place x) (fault place x) a (has place x)) 0 xs a is
  where
    at : (passes : Bool) (found a : A) → P found → fault_unless passes found ≡ Some a → P a
    at true found a has is = let no : ⊥ = cc in absurd no
    at false found a has is = let same : found ≡ a = cc in subst P same has

-- the refusal is no clash of atoms
abbrev IsNoClash : Refusal → Type 0
IsNoClash (Identification object first second) = Unit {0}
IsNoClash (Dangling arrow name) = Unit {0}
IsNoClash (NoValue part attr) = Unit {0}
IsNoClash (TooLarge object) = Unit {0}
IsNoClash (Clash object name attr first second) = ⊥

module _ (C : Signature) (codes : List OpCode) (rule : RuleLists) (tuple : List ℕ) (X : Instance) (next : List ℕ) where
  -- parts that are identified are no clash
  identified_no_clash : (refusal : Refusal) → identification rule tuple ≡ Some refusal → IsNoClash refusal
  identified_no_clash refusal is =
      found_in IsNoClash (identification_at rule tuple)
      (λ object size. found_in IsNoClash (λ place first. identification_of rule tuple object first)
      (λ place first. found_fault IsNoClash (λ place second. not (identifies rule tuple object first second)) (λ place second. Identification (record { 0 = object }) first second)
      (λ place second. tt) (parts_of rule.goal.left object))
      0 (parts_of rule.goal.left object))
      0 rule.goal.left.sizes refusal is

  -- nor is an arrow that dangles
  dangling_no_clash : (refusal : Refusal) → dangling C rule tuple X ≡ Some refusal → IsNoClash refusal
  dangling_no_clash refusal is =
      found_in IsNoClash (dangling_at rule tuple X)
      (λ arrow ends. found_fault IsNoClash (λ place name. not (dangles rule tuple X arrow ends name)) (λ place name. Dangling (record { 0 = arrow }) name)
      (λ place name. tt) (X.names ends.source.0))
      0 C.arrows refusal is

  -- nor a set without a value
  lacking_no_clash : (refusal : Refusal) → no_value C codes rule tuple X ≡ Some refusal → IsNoClash refusal
  lacking_no_clash refusal is =
      found_in IsNoClash (λ object size. first_in (λ place part. no_value_on C codes rule tuple X object part) 0 (parts_of rule.right object))
      (λ object size. found_in IsNoClash (λ place part. no_value_on C codes rule tuple X object part)
      (λ place part. found_fault IsNoClash (λ attr (ends : AttrEnds). not (ends.object.0 == object && lacks_value codes rule tuple X attr part))
      (λ attr ends. NoValue part (record { 0 = attr })) (λ attr ends. tt) C.attributes)
      0 (parts_of rule.right object))
      0 rule.right.sizes refusal is

  -- nor an object with too many names
  large_no_clash : (refusal : Refusal) → too_large rule next ≡ Some refusal → IsNoClash refusal
  large_no_clash refusal is =
      found_fault IsNoClash (λ object name. nat_le (next_after rule next object) most_names) (λ object name. TooLarge (record { 0 = object })) (λ object name. tt) next refusal is

  -- so what obstructs a match early is no clash
  early_no_clash : (refusal : Refusal) → early C codes rule tuple X next ≡ Some refusal → IsNoClash refusal
  early_no_clash =
      found_by_either IsNoClash (identification rule tuple) (or_else (dangling C rule tuple X) (or_else (no_value C codes rule tuple X) (too_large rule next))) identified_no_clash
      (found_by_either IsNoClash (dangling C rule tuple X) (or_else (no_value C codes rule tuple X) (too_large rule next)) dangling_no_clash
      (found_by_either IsNoClash (no_value C codes rule tuple X) (too_large rule next) lacking_no_clash large_no_clash))

  -- it is what obstructs the match
  obstructs_early : (refusal : Refusal) → early C codes rule tuple X next ≡ Some refusal → Obstructs C codes rule tuple X next refusal
  obstructs_early (Identification object first second) is = is
  obstructs_early (Dangling arrow name) is = is
  obstructs_early (NoValue part attr) is = is
  obstructs_early (TooLarge object) is = is
  obstructs_early (Clash object name attr first second) is = absurd (early_no_clash (Clash object name attr first second) is)

-- each match has a change that leaves its step, or an obstruction
verdict_exists : (C : Signature) (codes : List OpCode) (rule : RuleLists) (tuple : List ℕ) (X : Instance) (next : List ℕ)
    → IsKnown C (length codes) rule → is_injective rule.keep rule.l ≡ true → IsMet C rule tuple X
    → Contains (matches C rule.goal.left rule.goal.monic X) tuple
    → ((object : ℕ) → object < C.objects → ascends (X.names object) ≡ true)
    → ((object w : ℕ) → object < C.objects → Has X object w → w < slice_index next object)
    → ((change : ChangeLists) × IsChangeOfStep C codes rule X next tuple change) ⊎ ((refusal : Refusal) × Obstructs C codes rule tuple X next refusal)
verdict_exists C codes rule tuple X next known apart met matched host_ascends host_below = at (early C codes rule tuple X next) refl
  where
    at : (found : Option Refusal) → early C codes rule tuple X next ≡ found
        → ((change : ChangeLists) × IsChangeOfStep C codes rule X next tuple change) ⊎ ((refusal : Refusal) × Obstructs C codes rule tuple X next refusal)
    at (Some refusal) is = inr (refusal, obstructs_early C codes rule tuple X next refusal is)
    at None is =
        elim (change_or_clash C codes rule tuple X next known apart met host_ascends host_below is) [
          | inl (change, answer) ↦ inl (change, record { answer = answer; step = step_from_answer C met.category codes rule X next tuple matched is change answer })
          | inr (object, w, c, a, b, clash) ↦ inr (Clash object w c a b, clash)
        ]

-- each match of a double-pushout rule has one verdict
pub one_verdict : (C : Signature) → IsCategory C → (codes : List OpCode) (rule : RuleLists) → IsRuleOver C (length codes) rule → rule.kind ≡ Dpo → HaveOneVerdict C codes rule
one_verdict C category codes rule over dpo X next tuple host matched =
    let known : IsKnown C (length codes) rule = rule_known C (length codes) rule over in
    let met : IsMet C rule tuple X = met_by_match C rule tuple X category host.instance over.parts.goal.left matched in
    record {
      exists = verdict_exists C codes rule tuple X next known (dpo_injective rule known.apart dpo) met matched host.ascends host.below;
      only = verdicts_agree C category codes rule over dpo X next tuple host.instance matched;
    }
