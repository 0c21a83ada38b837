-- The places so far are those of the images so far.
use Rattle.std.proofs.Common.{◌≡◌, take}
use Rattle.rw_classes.specs.ClassLists.{joined}
use Rattle.rw_classes.proofs.joined.joined_places.Given as goal

abbrev pub invariant-loop-index : goal.invariant-loop-index
invariant-loop-index l = l.places.items ≡ joined l.left l.right (take l.index l.left_images) l.right_images
