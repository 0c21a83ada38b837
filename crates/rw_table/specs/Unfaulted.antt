-- When lists are a table, in the words of the field.
use Rattle.std.specs.Prelude.{◌≡◌, ◌<◌, ◌↔◌, ℕ, true, None, slice_index}
use Rattle.rw_schema.specs.RowLists.{RowLists, list_at}
use Rattle.rw_schema.specs.Signature.{Signature, IsCategory}
use Rattle.rw_spec.specs.Instance.{IsInstance, instance_of}
use Rattle.rw_table.specs.TableFaults.{are_names, has_shape, table_fault}

-- the lists have the right shape, the names of each object ascend below its next name, and what the lists stand for is an instance
pub record IsTable (C : Signature) (rows : RowLists) : Type 0 where
  pub shape : has_shape C rows ≡ true
  pub names : (object : ℕ) → object < C.objects → are_names (slice_index rows.next object) (list_at rows.names object) ≡ true
  pub instance : IsInstance C (instance_of C rows)

-- lists have no fault exactly where they are a table
abbrev pub UnfaultedAreTables : Type 0
UnfaultedAreTables = (C : Signature) → IsCategory C → (rows : RowLists) → (table_fault C rows ≡ None) ↔ IsTable C rows
