-- All values are short exactly where those that are left are.
use Rattle.std.proofs.Common.{◌≡◌, drop, map}
use Rattle.serde_json.specs.View.{view}
use Rattle.rw_docspan.specs.Instances as spec
use Rattle.rw_docspan.proofs.limits.are_short.Given as goal

abbrev pub invariant-loop-value : goal.invariant-loop-value
invariant-loop-value l = spec.are_short (map view l.values) ≡ spec.are_short (map view (drop l.value-index l.values))
