-- Only an equation can fail.
use Rattle.std.proofs.Common.{◌≡◌, Some, map, sym}
use Rattle.rw_schema.specs.Presentation.{signature_of}
use Rattle.rw_docspan.specs.Instances as spec
use Rattle.rw_docspan.specs.Views.{form_lists}
use Rattle.rw_docspan.proofs.SoundForms.{form_read}
use Rattle.rw_docspan.proofs.instance.instance_of.Goals as goal

pub returns : goal.returns
returns c =
    let C = signature_of c.args.schema.now in
    let form = form_lists c.args.form in
    let cells = map (λ list. list.items) c.in-Some.cells.items in
    let so : spec.cells_of C form.cells ≡ Some cells = sym (rw (c.in-Some.is, c.attribute_list.ensures.value, c.as_slice.ensures.value) at c.in_ok-cells.ensures) in
    form_read C c.args.piece form cells c.in_ok-rows.rows c.table_of.result c.requires.lengths c.requires.images so c.in_ok-rows.ensures c.table_of.ensures
