-- The object's names ascend below its next name.
use Rattle.rw_schema.specs.Presentation.{signature_of}
use Rattle.rw_columns.proofs.Lists.{names_known}
use Rattle.rw_columns.proofs.fill.names_column.Goals as goal

pub column_of_names-requires : goal.column_of_names-requires
column_of_names-requires c =
    rw (c.next.ensures, c.names.ensures) (names_known (signature_of c.args.schema.now) c.args.rows.now c.args.object.0 c.requires.sound c.requires.known)
