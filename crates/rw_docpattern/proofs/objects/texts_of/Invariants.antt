-- All that is read is what was read so far, with what is read of the items that are left.
use Rattle.serde_json.specs.Find.{as_str}
use Rattle.rw_doc.proofs.Listed.{SomeSo}
use Rattle.rw_docpattern.proofs.objects.texts_of.Given as goal

abbrev pub invariant-loop-item : goal.invariant-loop-item
invariant-loop-item l = SomeSo as_str l.items l.item-index l.texts.items
