-- All that is read is what was read so far, with what is read of the attributes that are left.
use Rattle.std.proofs.Common.{◌≡◌, ◌++◌, drop, map, option_map}
use Rattle.serde_json.specs.View.{view}
use Rattle.rw_schema.specs.First.{map_in}
use Rattle.rw_schema.specs.Presentation.{ends_of_attribute}
use Rattle.rw_doc.specs.Chain.{all_some}
use Rattle.rw_docspan.specs.Instances as spec
use Rattle.rw_docspan.proofs.cells.cells_of.Given as goal

abbrev pub invariant-loop-place : goal.invariant-loop-place
invariant-loop-place l =
    let f = spec.cells_at (map (λ list. map view list.now) l.lists) in
    all_some (λ list. list) (map_in f 0 (map ends_of_attribute l.attributes))
    ≡ option_map (λ rest. map (λ list. list.items) l.cells.items ++ rest) (all_some (λ list. list) (map_in f l.place (map ends_of_attribute (drop l.place l.attributes))))
