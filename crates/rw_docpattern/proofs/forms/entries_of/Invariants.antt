-- All that is read is what was read so far, with what is read of the items that are left.
use Rattle.rw_docpattern.specs.Forms as spec
use Rattle.rw_doc.proofs.Listed.{SomeSo}
use Rattle.rw_docpattern.proofs.forms.entries_of.Given as goal

abbrev pub invariant-loop-item : goal.invariant-loop-item
invariant-loop-item l = SomeSo spec.entry_of l.items l.item-index l.entries.items
