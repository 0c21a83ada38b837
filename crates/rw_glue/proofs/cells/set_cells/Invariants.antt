-- The cells so far.
use Rattle.std.proofs.Common.{◌≡◌, map}
use Rattle.std.specs.List.{range_with_len}
use Rattle.rw_glue.specs.inner.Sides.{set_atom}
use Rattle.rw_glue.proofs.cells.set_cells.Given as goal

abbrev pub invariant-loop-part : goal.invariant-loop-part
invariant-loop-part l = l.cells.items ≡ map (set_atom l.values l.rule.sets l.attr.0) (range_with_len 0 l.part)
