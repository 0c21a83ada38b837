-- All that is read is what was read so far, with what is read of the items that are left.
use Rattle.std.proofs.Common.{map}
use Rattle.rw_doc.specs.Numbers as spec
use Rattle.rw_doc.proofs.Listed.{SomeSo}
use Rattle.rw_doc.proofs.numbers.number_lists_of.Given as goal

abbrev pub invariant-loop-item : goal.invariant-loop-item
invariant-loop-item l = SomeSo spec.as_numbers l.items l.item-index (map (λ list. list.items) l.lists.items)
