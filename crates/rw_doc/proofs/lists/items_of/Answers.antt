-- The items of an array are the list's values.
use Rattle.std.proofs.Common.{Some, map, ap, sym}
use Rattle.serde_json.specs.View.{view}
use Rattle.rw_doc.proofs.Readings.{list_of_items}
use Rattle.rw_doc.proofs.lists.items_of.Goals as goal

pub returns-in-Some : goal.returns-in-Some
returns-in-Some c = rw (← c.in-Some.ensures, c.as_slice.ensures.value) (sym (ap (λ items. Some items) (list_of_items (map view c.in-Some.items.now.items))))
