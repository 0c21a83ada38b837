-- Only a variable can fail.
use Rattle.std.proofs.Common.{◌≡◌, Some, ap, subst, sym}
use Rattle.rw_schema.specs.Presentation.{signature_of}
use Rattle.rw_pattern.specs.PatternFaults.{pattern_fault, variable_fault}
use Rattle.rw_pattern.specs.PatternLists.{PatternLists}
use Rattle.rw_doc.specs.Chain.{all_some}
use Rattle.rw_docpattern.specs.Drafts.{draft_seen}
use Rattle.rw_docpattern.specs.Patterns.{cell_of}
use Rattle.rw_docpattern.proofs.SoundCells.{cells_within, only_variables}
use Rattle.rw_doccondition.proofs.conditions.pattern_with.Goals as goal

pub pattern_of-requires-clause-attributes : goal.pattern_of-requires-clause-attributes
pattern_of-requires-clause-attributes c =
    let names = c.args.known.now.names in
    let cells_are : all_some (cell_of names) c.args.draft.entries.items ≡ Some c.in-Some.cells.items = sym (rw c.in-Some.is at c.in_ok-cells.ensures) in
    let same : c.in_ok-parts.parts.cells.items ≡ c.in-Some.cells.items = ap (λ (lists : PatternLists). lists.cells) c.in_ok-parts.ensures in
    rw same (cells_within c.args.schema.now (draft_seen c.args.draft) names c.in-Some.cells.items c.requires.sound cells_are)

pub pattern_of-requires-clause-variables : goal.pattern_of-requires-clause-variables
pattern_of-requires-clause-variables c =
    let names = c.args.known.now.names in
    let cells_are : all_some (cell_of names) c.args.draft.entries.items ≡ Some c.in-Some.cells.items = sym (rw c.in-Some.is at c.in_ok-cells.ensures) in
    let C = signature_of c.args.schema.now in
    let kinds = c.as_slice.result.now in
    subst (λ (lists : PatternLists). pattern_fault C kinds lists ≡ variable_fault C kinds lists) (sym c.in_ok-parts.ensures)
    (only_variables c.args.schema.now (draft_seen c.args.draft) kinds names c.in-Some.cells.items c.requires.sound cells_are)
