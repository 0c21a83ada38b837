-- The pairs passed are joined.
use Rattle.std.proofs.Common.{take}
use Rattle.rw_classes.specs.inner.Links.{AreUnited}
use Rattle.rw_classes.proofs.classes.unite_all.Given as goal

abbrev pub invariant-loop-pair : goal.invariant-loop-pair
invariant-loop-pair l = AreUnited (take l.pair-index l.pairs) l.fn.parents l.parents
