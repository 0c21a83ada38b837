-- Only a variable can fail.
use Rattle.std.proofs.Common.{rules, ◌≡◌, ◌∙◌, Some, ap, subst, sym}
use Rattle.rw_schema.specs.Presentation.{signature_of}
use Rattle.rw_pattern.specs.PatternFaults.{pattern_fault, variable_fault}
use Rattle.rw_pattern.specs.PatternLists.{PatternLists}
use Rattle.rw_doc.specs.Chain.{all_some}
use Rattle.rw_docpattern.specs.Drafts.{draft_seen}
use Rattle.rw_docpattern.specs.Parts.{lists_of_parts}
use Rattle.rw_docpattern.specs.Patterns.{cell_of}
use Rattle.rw_docpattern.specs.Variables.{kinds_of, variables_of}
use Rattle.rw_docpattern.proofs.SoundCells.{cells_within, only_variables, pattern_made}
use Rattle.rw_docpattern.proofs.build.with_entries.Goals as goal

pub pattern_of-requires-clause-attributes : goal.pattern_of-requires-clause-attributes
pattern_of-requires-clause-attributes c =
    let names = c.in_ok-names.field-0.names in
    let cells_are : all_some (cell_of names) c.args.draft.entries.items ≡ Some c.in-Some.cells.items = sym (rw c.in-Some.is at c.in_ok-cells.ensures) in
    let same : c.in_ok-parts.parts.cells.items ≡ c.in-Some.cells.items = ap (λ (lists : PatternLists). lists.cells) c.in_ok-parts.ensures in
    rw same (cells_within c.args.schema.now (draft_seen c.args.draft) names c.in-Some.cells.items c.requires cells_are)

pub pattern_of-requires-clause-variables : goal.pattern_of-requires-clause-variables
pattern_of-requires-clause-variables c =
    let names = c.in_ok-names.field-0.names in
    let cells_are : all_some (cell_of names) c.args.draft.entries.items ≡ Some c.in-Some.cells.items = sym (rw c.in-Some.is at c.in_ok-cells.ensures) in
    let C = signature_of c.args.schema.now in
    let kinds = c.as_slice-2.result.now in
    subst (λ (lists : PatternLists). pattern_fault C kinds lists ≡ variable_fault C kinds lists) (sym c.in_ok-parts.ensures)
    (only_variables c.args.schema.now (draft_seen c.args.draft) kinds names c.in-Some.cells.items c.requires cells_are)

pub returns-in_err-pattern-clause-gives : goal.returns-in_err-pattern-clause-gives
returns-in_err-pattern-clause-gives c =
    let names = c.in_ok-names.field-0.names in
    let entries = c.args.draft.entries.items in
    let cells_are : all_some (cell_of names) entries ≡ Some c.in-Some.cells.items = sym (rw c.in-Some.is at c.in_ok-cells.ensures) in
    let names_are : names ≡ variables_of entries = c.in_ok-names.ensures.names ∙ ap variables_of c.as_slice.ensures.value in
    let kinds_are : c.as_slice-2.result.now ≡ kinds_of c.args.schema.now.attributes entries =
    c.as_slice-2.ensures.value ∙ c.in_ok-names.ensures.kinds ∙ ap (kinds_of c.args.schema.now.attributes) c.as_slice.ensures.value in
    rw (pattern_made c.args.schema.now c.args.piece c.args.draft.bare entries names c.as_slice-2.result.now c.in-Some.cells.items
    (lists_of_parts (signature_of c.args.schema.now) c.in_ok-parts.parts) names_are kinds_are cells_are c.in_ok-parts.ensures) (search rules)

pub returns-clause-gives : goal.returns-clause-gives
returns-clause-gives c =
    let names = c.in_ok-names.field-0.names in
    let entries = c.args.draft.entries.items in
    let cells_are : all_some (cell_of names) entries ≡ Some c.in-Some.cells.items = sym (rw c.in-Some.is at c.in_ok-cells.ensures) in
    let names_are : names ≡ variables_of entries = c.in_ok-names.ensures.names ∙ ap variables_of c.as_slice.ensures.value in
    let kinds_are : c.as_slice-2.result.now ≡ kinds_of c.args.schema.now.attributes entries =
    c.as_slice-2.ensures.value ∙ c.in_ok-names.ensures.kinds ∙ ap (kinds_of c.args.schema.now.attributes) c.as_slice.ensures.value in
    rw (pattern_made c.args.schema.now c.args.piece c.args.draft.bare entries names c.as_slice-2.result.now c.in-Some.cells.items
    (lists_of_parts (signature_of c.args.schema.now) c.in_ok-parts.parts) names_are kinds_are cells_are c.in_ok-parts.ensures) (search rules)
