-- The lists of the change, as they are made.
use Rattle.std.proofs.Common.{refl}
use Rattle.rw_columns.proofs.tests.without_edge.Goals as goal

pub returns : goal.returns
returns c = rw (c.in_ok-two_lists.ensures, c.in_ok-names.ensures, c.in_ok-images.ensures, c.in_ok-next.ensures.items, c.in_ok-vec.ensures.items, c.new-2.ensures.items, c.new-3.ensures.items, c.new.ensures.items, c.new-4.ensures.items) refl
