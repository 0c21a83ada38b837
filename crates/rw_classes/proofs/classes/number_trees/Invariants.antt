-- The trees of the numbers passed are numbered.
use Rattle.rw_classes.specs.inner.Links.{AreRootClasses}
use Rattle.rw_classes.proofs.classes.number_trees.Given as goal

abbrev pub invariant-loop-x : goal.invariant-loop-x
invariant-loop-x l = AreRootClasses l.parents l.x l.numbers.items l.firsts.items
