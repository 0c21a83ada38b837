-- The ways so far are shortened, and the number that is reached is in the tree of x; it falls.
use Rattle.std.proofs.Common.{◌≡◌, ℕ, ◌<◌, length}
use Rattle.rw_classes.specs.inner.Links.{Follows, IsShortened}
use Rattle.rw_classes.proofs.classes.root.Given as goal

abbrev pub invariant-loop-parents : goal.invariant-loop-parents
invariant-loop-parents l = record {
  shortened : IsShortened l.initial.parents l.parents;
  within : l.at < length l.parents;
  shared : (h : ℕ → ℕ) → Follows l.parents h → h l.at ≡ h l.x;
}

abbrev pub decreases-loop-parents : goal.decreases-loop-parents
decreases-loop-parents l = l.at
