-- What obstructs a single pushout before atoms are compared: each at its least place.
use Rattle.std.specs.Prelude.{◌+◌, ℕ, nat_le, filter, length, List, Option, slice_index}
use Rattle.rw_schema.specs.First.{first_in, fault_unless, or_else}
use Rattle.rw_schema.specs.Signature.{Signature}
use Rattle.rw_spec.specs.Instance.{Instance}
use Rattle.rw_terms.specs.declared.code.OpCode.{OpCode}
use Rattle.rw_rule.specs.RuleLists.{RuleLists}
use Rattle.rw_rule.specs.declared.refusal.Refusal.{Refusal}
use Rattle.rw_rule.specs.declared.refusal.Refusal.TheVariants.{TooLarge}
use Rattle.rw_redex.specs.NewParts.{new_parts}
use Rattle.rw_redex.specs.Obstructions.{most_names}
use Rattle.rw_redex.specs.SetValues.{no_value}
use Rattle.rw_partial.specs.SubInstance.{Elements}

-- the new parts that are in the set of the right side
abbrev pub new_parts_in : RuleLists → Elements → ℕ → List ℕ
new_parts_in rule right object = filter (right.part object) (new_parts rule object)

-- the next name after the step: each new part that stays has taken one
abbrev pub next_after_pair : RuleLists → Elements → List ℕ → ℕ → ℕ
next_after_pair rule right next object = slice_index next object + length (new_parts_in rule right object)

-- the first object whose next name would pass the greatest one
abbrev pub too_large_pair : RuleLists → Elements → List ℕ → Option Refusal
too_large_pair rule right next =
    first_in (λ object name. fault_unless (nat_le (next_after_pair rule right next object) most_names) (TooLarge (record { 0 = object }))) 0 next

-- the first obstruction before atoms are compared: a set without a value, though its part may go, or too many names
abbrev pub early_pair : Signature → List OpCode → RuleLists → List ℕ → Instance → List ℕ → Elements → Option Refusal
early_pair C codes rule tuple X next right = or_else (no_value C codes rule tuple X) (too_large_pair rule right next)
