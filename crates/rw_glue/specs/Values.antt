-- What the values of a rule's sets are.
use Rattle.std.specs.Prelude.{◌≡◌, ℕ, List, Some, None, Result, Ok, Err}
use Rattle.rw_schema.specs.declared.atom.Atom.{Atom}
use Rattle.rw_schema.specs.Signature.{Signature}
use Rattle.rw_spec.specs.Instance.{Instance}
use Rattle.rw_terms.specs.declared.code.OpCode.{OpCode}
use Rattle.rw_rule.specs.RuleLists.{RuleLists}
use Rattle.rw_rule.specs.declared.refusal.Refusal.TheVariants.{NoValue}
use Rattle.rw_redex.specs.SetValues.{no_value}
use Rattle.rw_glue.specs.Given.{AreValues}
use Rattle.rw_glue.specs.declared.set_values.NoValueEnd.{NoValueEnd}
use Rattle.rw_glue.specs.declared.set_values.NoValueEnd.TheVariants as ends

-- the values of the sets at the match, or the first set without one
abbrev pub Evaluates : Signature → List OpCode → RuleLists → List ℕ → Instance → Result (List Atom) NoValueEnd → Type 0
Evaluates C codes rule tuple X (Ok values) = AreValues codes rule tuple X values × (no_value C codes rule tuple X ≡ None)
Evaluates C codes rule tuple X (Err (ends.NoValue part attr)) = no_value C codes rule tuple X ≡ Some (NoValue part attr)
Evaluates C codes rule tuple X (Err ends.OutOfMemory) = Unit {0}
