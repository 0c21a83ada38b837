-- All objects have images where those that are left have.
use Rattle.std.proofs.Common.{◌≡◌, drop}
use Rattle.rw_schema.specs.First.{all_in}
use Rattle.rw_pattern.specs.MapFaults.{has_images}
use Rattle.rw_doccondition.proofs.images.have_images.Given as goal

abbrev pub invariant-loop-object : goal.invariant-loop-object
invariant-loop-object l = all_in (has_images l.images) 0 l.sizes ≡ all_in (has_images l.images) l.object (drop l.object l.sizes)
