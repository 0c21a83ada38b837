-- The cells so far.
use Rattle.std.proofs.Common.{◌≡◌, map, take}
use Rattle.rw_glue.specs.inner.Sides.{held_cell}
use Rattle.rw_glue.proofs.cells.held_cells.Given as goal

abbrev pub invariant-loop-name : goal.invariant-loop-name
invariant-loop-name g l = l.cells.items ≡ map (held_cell (g.P.Probe.instance l.probe) l.blank l.attr.0) (take l.name-index l.names)
