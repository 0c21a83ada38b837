-- All lists have their lengths exactly where those that are left do.
use Rattle.std.proofs.Common.{◌≡◌, drop, map}
use Rattle.serde_json.specs.View.{view}
use Rattle.rw_schema.specs.First.{all_in}
use Rattle.rw_schema.specs.Presentation.{ends_of_attribute}
use Rattle.rw_docspan.specs.Instances as spec
use Rattle.rw_docspan.proofs.lengths.have_cell_lengths.Given as goal

abbrev pub invariant-loop-place : goal.invariant-loop-place
invariant-loop-place l =
    let cells = map (λ list. map view list.now) l.cells in
    all_in (spec.has_cell_length l.parts cells) 0 (map ends_of_attribute l.attributes)
    ≡ all_in (spec.has_cell_length l.parts cells) l.place (map ends_of_attribute (drop l.place l.attributes))
