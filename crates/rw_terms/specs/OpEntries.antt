-- What contracts see of an operation and of a table of operations.
use Rattle.std.specs.Prelude.{List, map}
use Rattle.rw_terms.specs.declared.op.Op.{Op}
use Rattle.rw_terms.specs.declared.table.OpTable.{OpTable}
use Rattle.rw_terms.specs.OpTables.{OpEntry}

-- the name and the code of an operation; the arguments before it are those of a type that keeps a boxed closure
abbrev pub entry : {X : Type 0} {F : X → Type 0} {g : _} → Op X F g → OpEntry
entry op = record { name = op.name; code = op.code }

-- the operations of a table, by their numbers
abbrev pub entries : {X : Type 0} {F : X → Type 0} {g : _} → OpTable X F g → List OpEntry
entries table = map entry table.ops.items
