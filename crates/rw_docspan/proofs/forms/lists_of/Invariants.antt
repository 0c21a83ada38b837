-- All that is read is what was read so far, with what is read of the items that are left.
use Rattle.std.proofs.Common.{map}
use Rattle.serde_json.specs.View.{view}
use Rattle.rw_doc.specs.Json.{as_list}
use Rattle.rw_doc.proofs.Listed.{SomeSo}
use Rattle.rw_docspan.proofs.forms.lists_of.Given as goal

abbrev pub invariant-loop-item : goal.invariant-loop-item
invariant-loop-item l = SomeSo as_list l.items l.item-index (map (λ list. map view list.now) l.lists.items)
