-- The first such part is the first of those that are left.
use Rattle.std.proofs.Common.{◌≡◌, drop, not}
use Rattle.rw_schema.specs.First.{fault_unless, first_in}
use Rattle.rw_redex.specs.Gluing.{identification_of, identifies}
use Rattle.rw_rule.specs.Images.{parts_of}
use Rattle.rw_rule.specs.declared.refusal.Refusal.TheVariants.{Identification}
use Rattle.rw_dpo.proofs.identification.identification_of.Given as goal

abbrev pub invariant-loop-second : goal.invariant-loop-second
invariant-loop-second l =
    identification_of l.rule l.tuple l.object.0 l.first
    ≡ first_in (λ place second. fault_unless (not (identifies l.rule l.tuple l.object.0 l.first second)) (Identification l.object l.first second)) l.second
    (drop l.second (parts_of l.rule.goal.left l.object.0))
