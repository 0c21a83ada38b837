-- What was read has one number for each object, and no fault but that of an equation.
use Rattle.std.proofs.Common.{map, option_map}
use Rattle.serde_json.specs.View.{view}
use Rattle.rw_schema.specs.Presentation.{signature_of}
use Rattle.rw_doc.proofs.SoundInstances.{parts_read, lists_sound}
use Rattle.rw_doc.proofs.instance.read_sections.Goals as goal

pub read_rows-requires-clause-parts : goal.read_rows-requires-clause-parts
read_rows-requires-clause-parts c =
    rw c.as_slice.ensures.value (parts_read (signature_of c.args.schema.now) (view c.args.parts.now) c.in_ok-parts.parts.items c.in_ok-parts.ensures).0

pub read_rows-requires-clause-few : goal.read_rows-requires-clause-few
read_rows-requires-clause-few c =
    rw c.as_slice.ensures.value (parts_read (signature_of c.args.schema.now) (view c.args.parts.now) c.in_ok-parts.parts.items c.in_ok-parts.ensures).1

pub read_cells-requires-clause-parts : goal.read_cells-requires-clause-parts
read_cells-requires-clause-parts c =
    rw c.as_slice-2.ensures.value (parts_read (signature_of c.args.schema.now) (view c.args.parts.now) c.in_ok-parts.parts.items c.in_ok-parts.ensures).0

pub read_cells-requires-clause-few : goal.read_cells-requires-clause-few
read_cells-requires-clause-few c =
    rw c.as_slice-2.ensures.value (parts_read (signature_of c.args.schema.now) (view c.args.parts.now) c.in_ok-parts.parts.items c.in_ok-parts.ensures).1

pub table_of-requires : goal.table_of-requires
table_of-requires c =
    rw c.in_ok-rows-2.ensures
    (lists_sound (signature_of c.args.schema.now) c.args.blanks (view c.args.parts.now) (view c.args.rows.now) (option_map (λ value. view value.now) c.args.cells)
    c.in_ok-parts.parts.items (map (λ row. row.items) c.in_ok-rows.rows.items) (map (λ list. list.items) c.in_ok-cells.cells.items)
    c.in_ok-parts.ensures (rw c.as_slice.ensures.value at c.in_ok-rows.ensures) (rw c.as_slice-2.ensures.value at c.in_ok-cells.ensures))
