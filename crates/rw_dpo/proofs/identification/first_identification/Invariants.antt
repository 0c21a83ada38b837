-- The first object with such parts is the first of those that are left.
use Rattle.std.proofs.Common.{◌≡◌, drop}
use Rattle.rw_schema.specs.First.{first_in}
use Rattle.rw_redex.specs.Gluing.{identification, identification_at}
use Rattle.rw_dpo.proofs.identification.first_identification.Given as goal

abbrev pub invariant-loop-object : goal.invariant-loop-object
invariant-loop-object l = identification l.rule l.tuple ≡ first_in (identification_at l.rule l.tuple) l.object (drop l.object l.rule.goal.left.sizes)
