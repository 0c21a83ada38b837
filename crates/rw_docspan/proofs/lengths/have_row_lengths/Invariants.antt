-- All rows have their lengths exactly where those that are left do.
use Rattle.std.proofs.Common.{◌≡◌, drop, map}
use Rattle.rw_schema.specs.First.{all_in}
use Rattle.rw_schema.specs.Presentation.{ends_of_arrow}
use Rattle.rw_docspan.specs.Instances as spec
use Rattle.rw_docspan.proofs.lengths.have_row_lengths.Given as goal

abbrev pub invariant-loop-place : goal.invariant-loop-place
invariant-loop-place l =
    let rows = map (λ row. row.items) l.rows in
    all_in (spec.has_row_length l.parts rows) 0 (map ends_of_arrow l.arrows)
    ≡ all_in (spec.has_row_length l.parts rows) l.place (map ends_of_arrow (drop l.place l.arrows))
