-- The three walks give what the change leaves.
use Rattle.std.proofs.Common.{◌∙◌, ap}
use Rattle.rw_schema.specs.RowLists.{list_at}
use Rattle.rw_columns.proofs.Changed.{preimage_left, rows_differ}
use Rattle.rw_columns.proofs.columns.Columns.preimage_after.Goals as goal

pub new-requires-clause-rows : goal.new-requires-clause-rows
new-requires-clause-rows c =
    rw c.new_rows-rows.ensures (rows_differ c.args.self.now c.args.change.now c.requires.fits c.args.arrow.0 c.requires.arrow).ascend

pub returns : goal.returns
returns c =
    let source = c.source-source.ensures.source in
    let change = c.args.change.now in
    let removed = c.removed_names.ensures ∙ ap (list_at change.removed) source in
    let added = c.added_names.ensures ∙ ap (list_at change.added.names) source in
    rw (c.new-4.ensures, c.new.ensures, c.new-2.ensures, c.new-3.ensures, added, c.added_images.ensures, removed, c.new_rows-rows.ensures, c.leading_to.ensures.walk)
    (preimage_left c.args.self.now c.leading_to.ensures.sound c.args.arrow.0 c.requires.arrow change c.requires.fits c.args.name)
