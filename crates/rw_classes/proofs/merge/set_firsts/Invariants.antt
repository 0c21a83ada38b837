-- The first parts of each class among those passed.
use Rattle.std.proofs.Common.{◌++◌}
use Rattle.rw_classes.specs.Merging.{AreFirsts, cell_at}
use Rattle.rw_classes.proofs.merge.set_firsts.Given as goal

abbrev pub invariant-loop-place : goal.invariant-loop-place
invariant-loop-place l = AreFirsts (cell_at (l.left ++ l.right)) l.numbers l.place l.firsts
