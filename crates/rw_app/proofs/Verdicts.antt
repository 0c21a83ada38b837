-- What obstructs a match, and what its step is, in the order in which they are looked for.
use Rattle.std.proofs.Common.{◌≡◌, ◌∙◌, ◌<◌, ℕ, Contains, List, length, map, Option, Some, None, refl, sym, ap, subst, inl, inr}
use Rattle.std.proofs.lemmas.List.{length-map}
use Rattle.rw_schema.specs.declared.atom.Atom.{Atom}
use Rattle.rw_schema.specs.First.{or_else}
use Rattle.rw_schema.specs.Signature.{Signature, IsCategory}
use Rattle.rw_spec.specs.Instance.{Instance}
use Rattle.rw_columns.specs.Changes.{ChangeLists}
use Rattle.rw_pattern.specs.MapFaults.{image_of}
use Rattle.rw_pattern.specs.Matches.{matches}
use Rattle.rw_terms.specs.declared.code.OpCode.{OpCode}
use Rattle.rw_terms.specs.OpTables.{OpEntry, codes_of}
use Rattle.rw_rule.specs.RuleFaults.{IsRuleOver}
use Rattle.rw_rule.specs.RuleLists.{RuleLists}
use Rattle.rw_rule.specs.declared.refusal.Refusal.{Refusal}
use Rattle.rw_rule.specs.declared.refusal.Refusal.TheVariants.{Identification, Dangling, NoValue, TooLarge, Clash}
use Rattle.rw_redex.specs.Gluing.{identification}
use Rattle.rw_redex.specs.Instantiated.{redex_of, right_at}
use Rattle.rw_redex.specs.Obstructions.{dangling, too_large}
use Rattle.rw_redex.specs.SetValues.{no_value, set_value, set_values}
use Rattle.rw_redex.specs.Verdicts.{Obstructs, early}
use Rattle.rw_local.specs.Answer.{IsAnswer}
use Rattle.rw_local.specs.OneVerdict.{HasOneVerdict, IsChangeOfStep}
use Rattle.rw_local.proofs.StepChange.{step_from_answer}
use Rattle.rw_glue.specs.Given.{AreValues}

-- nothing is not something
none_some : {A : Type 0} {a : A} → None ≡ Some a → ⊥
none_some same = cc

-- the first of two is the first of three
first_of_three : (first second third : Option Refusal) (refusal : Refusal) → or_else first second ≡ Some refusal → or_else first (or_else second third) ≡ Some refusal
first_of_three None second third refusal is = rw is refl
first_of_three (Some found) second third refusal is = is

-- the operations are as many as their codes
pub counted : (C : Signature) (ops : List OpEntry) (rule : RuleLists) → IsRuleOver C (length ops) rule → IsRuleOver C (length (codes_of ops)) rule
counted C ops rule over = rw (length-map ops (λ (op : OpEntry). op.code)) over

-- there is a value for each set
pub values_long : (codes : List OpCode) (rule : RuleLists) (tuple : List ℕ) (X : Instance) (values : List Atom) → AreValues codes rule tuple X values
    → length values ≡ length rule.sets
values_long codes rule tuple X values are =
    sym (length-map values (λ atom. Some atom)) ∙ sym (ap length are) ∙ length-map rule.sets (set_value codes rule tuple X)

module _ (C : Signature) (codes : List OpCode) (rule : RuleLists) (tuple : List ℕ) (X : Instance) (next : List ℕ) where
  -- of two that are found early the one is the other
  obstructs_found : (found refusal : Refusal) → Obstructs C codes rule tuple X next found → early C codes rule tuple X next ≡ Some refusal
      → Obstructs C codes rule tuple X next refusal
  obstructs_found (Identification object first second) refusal is early_is =
      let same : Identification object first second ≡ refusal = cc in subst (Obstructs C codes rule tuple X next) same is
  obstructs_found (Dangling arrow part) refusal is early_is =
      let same : Dangling arrow part ≡ refusal = cc in subst (Obstructs C codes rule tuple X next) same is
  obstructs_found (NoValue part attr) refusal is early_is =
      let same : NoValue part attr ≡ refusal = cc in subst (Obstructs C codes rule tuple X next) same is
  obstructs_found (TooLarge object) refusal is early_is =
      let same : TooLarge object ≡ refusal = cc in subst (Obstructs C codes rule tuple X next) same is
  obstructs_found (Clash object name attr first second) refusal is early_is = absurd (none_some (sym is.0 ∙ early_is))

  -- what is found early obstructs a match that has a verdict
  obstructs_early : HasOneVerdict C codes rule X next tuple → (refusal : Refusal) → early C codes rule tuple X next ≡ Some refusal → Obstructs C codes rule tuple X next refusal
  obstructs_early verdict refusal is =
      elim verdict.exists [
        | inl (change, step) ↦ absurd (none_some (sym step.step.unobstructed ∙ is))
        | inr (found, obstructs) ↦ obstructs_found found refusal obstructs is
      ]

  -- where parts are identified or an arrow dangles the match is obstructed so
  pub unglued : HasOneVerdict C codes rule X next tuple → (refusal : Refusal) → or_else (identification rule tuple) (dangling C rule tuple X) ≡ Some refusal
      → Obstructs C codes rule tuple X next refusal
  unglued verdict refusal is =
      obstructs_early verdict refusal (first_of_three (identification rule tuple) (dangling C rule tuple X) (or_else (no_value C codes rule tuple X) (too_large rule next)) refusal is)

  module _ (apart : identification rule tuple ≡ None) (safe : dangling C rule tuple X ≡ None) where
    -- a set without a value obstructs next
    pub valueless : (refusal : Refusal) → no_value C codes rule tuple X ≡ Some refusal → early C codes rule tuple X next ≡ Some refusal
    valueless refusal is = rw (apart, safe, is) refl

    -- then an object with too many names
    pub overflowing : (refusal : Refusal) → no_value C codes rule tuple X ≡ None → too_large rule next ≡ Some refusal → early C codes rule tuple X next ≡ Some refusal
    overflowing refusal valued is = rw (apart, safe, valued, is) refl

    -- else nothing is in the way before atoms are compared
    pub unobstructed : no_value C codes rule tuple X ≡ None → too_large rule next ≡ None → early C codes rule tuple X next ≡ None
    unobstructed valued room = rw (apart, safe, valued, room) refl

    -- and then an answer is the change of the step
    pub ready : IsCategory C → Contains (matches C rule.goal.left rule.goal.monic X) tuple → no_value C codes rule tuple X ≡ None → too_large rule next ≡ None
        → (change : ChangeLists) → IsAnswer C (redex_of rule tuple X) (right_at codes rule tuple X) (image_of rule.r) next change → IsChangeOfStep C codes rule X next tuple change
    ready category matched valued room change answer = record {
      answer = answer;
      step = step_from_answer C category codes rule X next tuple matched (unobstructed valued room) change answer;
    }
