-- The first fault of all is the first of what is left.
use Rattle.std.proofs.Common.{◌≡◌, drop}
use Rattle.std.specs.List.{range_with_len}
use Rattle.rw_schema.specs.First.{first_in, fault_unless}
use Rattle.rw_spec.specs.Instance.{agrees_at}
use Rattle.rw_pattern.specs.declared.fault.PatternFault.TheVariants.{Equation}
use Rattle.rw_pattern.specs.PatternFaults.{failure_of}
use Rattle.rw_pattern.specs.PatternLists.{size_of, instance_of_pattern}
use Rattle.rw_pattern.proofs.equations.first_failure.Given as goal

abbrev pub invariant-loop-part : goal.invariant-loop-part
invariant-loop-part l =
    failure_of l.pattern l.place l.equation
    ≡ first_in (λ position part. fault_unless (agrees_at (instance_of_pattern l.pattern) l.equation part) (Equation l.place part)) l.part
    (drop l.part (range_with_len 0 (size_of l.pattern l.equation.object.0)))
