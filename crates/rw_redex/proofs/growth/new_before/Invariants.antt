-- The new parts so far are counted.
use Rattle.std.proofs.Common.{◌≡◌, ◌≤◌}
use Rattle.rw_redex.specs.NewParts.{new_before}
use Rattle.rw_redex.proofs.growth.new_before.Given as goal

abbrev pub invariant-loop-other : goal.invariant-loop-other
invariant-loop-other l = record {
  counted : l.count ≡ new_before l.rule l.object.0 l.other;
  few : l.count ≤ l.other;
}
