-- All images are there where those that are left are.
use Rattle.std.proofs.Common.{◌≡◌, drop}
use Rattle.rw_schema.specs.First.{all_in}
use Rattle.rw_doccondition.specs.Images.{are_below}
use Rattle.rw_doccondition.proofs.images.are_images_there.Given as goal

abbrev pub invariant-loop-object : goal.invariant-loop-object
invariant-loop-object l =
    all_in (λ object size. are_below l.sizes l.images object) 0 l.left ≡ all_in (λ object size. are_below l.sizes l.images object) l.object (drop l.object l.left)
