-- The lists of the attribute and of its object.
use Rattle.std.proofs.Common.{ℕ, IfOk, slice_index, sym, subst}
use Rattle.rw_schema.specs.Presentation.{signature_of, ends_of_attribute}
use Rattle.rw_schema.specs.RowLists.{list_at}
use Rattle.rw_spec.proofs.Signatures.{holder_is}
use Rattle.rw_table.proofs.Checked.{checked_known, cells_whole}
use Rattle.rw_columns.specs.inner.Filled.{AreFilledCells}
use Rattle.rw_columns.proofs.Lists.{names_known, attribute_there}
use Rattle.rw_columns.proofs.fill.cells_of.Goals as goal

pub cells_by_name-requires-clause-names : goal.cells_by_name-requires-clause-names
cells_by_name-requires-clause-names c =
    rw (c.next.ensures, c.names.ensures)
    (names_known (signature_of c.args.schema.now) c.args.rows.now c.attr.result.now.object.0 c.requires.sound c.attr.ensures.holder)

pub cells_by_name-requires-clause-beside : goal.cells_by_name-requires-clause-beside
cells_by_name-requires-clause-beside c =
    let C = signature_of c.args.schema.now in
    rw (c.cells.ensures, c.names.ensures)
    (cells_whole C c.args.rows.now c.args.attribute.0 (ends_of_attribute c.attr.result.now) (checked_known C c.args.rows.now c.requires.sound).shape
    (attribute_there c.args.schema.now c.args.attribute.0 c.attr.result.now c.attr.ensures.entry))

pub returns : goal.returns
returns c =
    let C = signature_of c.args.schema.now in
    let rows = c.args.rows.now in
    let attribute = c.args.attribute.0 in
    let there = attribute_there c.args.schema.now attribute c.attr.result.now c.attr.ensures.entry in
    let by_holder = λ (holder : ℕ). IfOk c.cells_by_name.result
    (λ list. AreFilledCells (slice_index rows.next holder) (list_at rows.names holder) (list_at rows.cells attribute) list.items) in
    let filled : by_holder c.attr.result.now.object.0 = rw (← c.next.ensures, ← c.names.ensures, ← c.cells.ensures) c.cells_by_name.ensures in
    subst by_holder (sym (holder_is C attribute (ends_of_attribute c.attr.result.now) there)) filled
