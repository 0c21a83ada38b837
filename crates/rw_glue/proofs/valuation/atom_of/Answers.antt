-- The entry is on a cell of the match.
use Rattle.std.proofs.Common.{sym}
use Rattle.rw_pattern.specs.Matches.{wants}
use Rattle.rw_pattern.specs.declared.cell.PatternCell.{PatternCell}
use Rattle.rw_redex.proofs.Right.{found_known}
use Rattle.rw_spec.proofs.Sequences.{contains_at}
use Rattle.rw_glue.proofs.valuation.atom_of.Goals as goal

pub cell-requires-clause-name : goal.cell-requires-clause-name
cell-requires-clause-name g c =
    let left = c.args.left.now in
    let entry = c.in_ok-entry.entry.now in
    let found = found_known (λ (each : PatternCell). wants c.args.variable each.want) left.cells entry (sym c.in_ok-entry.ensures.first) in
    rw (c.names.ensures, c.cell_place.ensures.value) (c.requires.there entry (contains_at left.cells found.0 entry found.1))
