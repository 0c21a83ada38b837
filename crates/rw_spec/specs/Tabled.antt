-- A table as contracts see it: the lists of an instance, with the schema that they are over, names apart.
use Rattle.std.specs.Prelude.{◌≡◌, ◌==◌, ℕ, if◌then◌else◌, Option, Some, None}
use Rattle.std.specs.List.{list_any}
use Rattle.rw_schema.specs.declared.atom.Atom.{Atom}
use Rattle.rw_schema.specs.Presentation.{Presentation, signature_of}
use Rattle.rw_schema.specs.RowLists.{RowLists, list_at}
use Rattle.rw_schema.specs.Signature.{Signature, source_of, holder_of}
use Rattle.rw_spec.specs.Instance.{Instance, instance_of}

pub record Tabled : Type 0 where
  pub signature : Signature
  pub rows : RowLists

-- the instance that a table stands for
abbrev pub instance_of_table : Tabled → Instance
instance_of_table table = instance_of table.signature table.rows

-- the table is over the schema
abbrev pub IsOver : Presentation → Tabled → Type 0
IsOver schema table = table.signature ≡ signature_of schema

-- the value of an arrow at a name, or none where the arrow's source has no such name
abbrev pub value_at : Tabled → ℕ → ℕ → Option ℕ
value_at table arrow name =
    if list_any (λ other. other == name) (list_at table.rows.names (source_of table.signature arrow))
    then Some ((instance_of_table table).value arrow name) else None

-- the cell of an attribute at a name, or none where the attribute's object has no such name
abbrev pub cell_at : Tabled → ℕ → ℕ → Option (Option Atom)
cell_at table attribute name =
    if list_any (λ other. other == name) (list_at table.rows.names (holder_of table.signature attribute))
    then Some ((instance_of_table table).cell attribute name) else None
