-- The cells so far.
use Rattle.std.proofs.Common.{◌≡◌, ◌<◌, ◌++◌, ℕ, Option, length, slice_index, take}
use Rattle.rw_schema.specs.declared.atom.Atom.{Atom}
use Rattle.rw_local.specs.inner.ChangeTo.{other_cells}
use Rattle.rw_glue.specs.inner.Changed.{touched_cell, unmoved}
use Rattle.rw_glue.proofs.cell_changes.cell_changes.Given as goal

abbrev pub invariant-loop-place : goal.invariant-loop-place
invariant-loop-place g l = (new : ℕ → Option Atom)
    → ((place : ℕ) → place < length l.touched → new (slice_index l.touched place) ≡ touched_cell l.cells.firsts.now l.cells.numbers.now (l.cells.left.now ++ l.cells.right.now) place)
    → l.changes.items ≡ other_cells ((g.P.Probe.instance l.probe).cell l.attr.0) new (unmoved l.moved (take l.place l.touched))
