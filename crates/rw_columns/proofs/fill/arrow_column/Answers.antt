-- The lists of the arrow and of its ends.
use Rattle.std.proofs.Common.{ℕ, IfOk, slice_index, sym, subst}
use Rattle.rw_schema.specs.Presentation.{signature_of, ends_of_arrow}
use Rattle.rw_schema.specs.RowLists.{list_at}
use Rattle.rw_spec.specs.Ends.{target_of}
use Rattle.rw_spec.proofs.Signatures.{source_is, target_is}
use Rattle.rw_table.proofs.Checked.{checked_known, row_whole}
use Rattle.rw_columns.specs.inner.Filled.{IsFilledColumn}
use Rattle.rw_columns.proofs.Lists.{names_known, images_below, arrow_there}
use Rattle.rw_columns.proofs.fill.arrow_column.Goals as goal

pub column_of_images-requires-clause-names : goal.column_of_images-requires-clause-names
column_of_images-requires-clause-names c =
    rw (c.next-sources.ensures, c.names.ensures)
    (names_known (signature_of c.args.schema.now) c.args.rows.now c.arrow-ends.result.now.source.0 c.requires.sound c.arrow-ends.ensures.source)

pub column_of_images-requires-clause-beside : goal.column_of_images-requires-clause-beside
column_of_images-requires-clause-beside c =
    let C = signature_of c.args.schema.now in
    rw (c.row.ensures, c.names.ensures)
    (row_whole C c.args.rows.now c.args.arrow.0 (ends_of_arrow c.arrow-ends.result.now) (checked_known C c.args.rows.now c.requires.sound).shape
    (arrow_there c.args.schema.now c.args.arrow.0 c.arrow-ends.result.now c.arrow-ends.ensures.entry))

pub column_of_images-requires-clause-within : goal.column_of_images-requires-clause-within
column_of_images-requires-clause-within c =
    rw (c.row.ensures, c.next-targets.ensures)
    (images_below (signature_of c.args.schema.now) c.args.rows.now c.args.arrow.0 (ends_of_arrow c.arrow-ends.result.now) c.requires.sound
    (arrow_there c.args.schema.now c.args.arrow.0 c.arrow-ends.result.now c.arrow-ends.ensures.entry) c.arrow-ends.ensures.target)

pub returns : goal.returns
returns c =
    let C = signature_of c.args.schema.now in
    let rows = c.args.rows.now in
    let arrow = c.args.arrow.0 in
    let ends = ends_of_arrow c.arrow-ends.result.now in
    let there = arrow_there c.args.schema.now arrow c.arrow-ends.result.now c.arrow-ends.ensures.entry in
    let by_ends = λ (source target : ℕ). IfOk c.column_of_images.result
    (IsFilledColumn (slice_index rows.next source) (slice_index rows.next target) (list_at rows.names source) (slice_index (list_at rows.arrows arrow))) in
    let filled : by_ends ends.source.0 ends.target.0 =
    rw (← c.next-sources.ensures, ← c.next-targets.ensures, ← c.names.ensures, ← c.row.ensures) c.column_of_images.ensures in
    subst (λ (source : ℕ). by_ends source (target_of C arrow)) (sym (source_is C arrow ends there))
    (subst (λ (target : ℕ). by_ends ends.source.0 target) (sym (target_is C arrow ends there)) filled)
