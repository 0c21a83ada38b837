-- The verdict on a match, as contracts see it.
use Rattle.std.specs.Prelude.{ℕ, List}
use Rattle.rw_schema.specs.Signature.{Signature}
use Rattle.rw_spec.specs.Instance.{Instance}
use Rattle.rw_terms.specs.declared.code.OpCode.{OpCode}
use Rattle.rw_rule.specs.RuleLists.{RuleLists}
use Rattle.rw_redex.specs.Verdicts.{Obstructs}
use Rattle.rw_local.specs.OneVerdict.{IsChangeOfStep}
use Rattle.rw_app.specs.declared.verdict.Verdict.{Verdict}
use Rattle.rw_app.specs.declared.verdict.Verdict.TheVariants.{Ready, Refused}

-- the change fits and leaves the step, or this is what obstructs the match first
abbrev pub IsVerdict : Signature → List OpCode → RuleLists → Instance → List ℕ → List ℕ → Verdict → Type 0
IsVerdict C codes rule X next tuple (Ready change) = IsChangeOfStep C codes rule X next tuple change
IsVerdict C codes rule X next tuple (Refused refusal) = Obstructs C codes rule tuple X next refusal
