-- A context over its host.
use Rattle.std.specs.Prelude.{◌≡◌, ◌<◌, ◌≤◌, ◌++◌, ℕ, true, List, Contains, slice_index}
use Rattle.rw_schema.specs.Signature.{Signature}
use Rattle.rw_spec.specs.Ascending.{ascends}
use Rattle.rw_spec.specs.Instance.{Instance, Has}
use Rattle.rw_columns.specs.Changes.{staying}

-- the context D has the names of the host that are not gone, and then copies; next names follow these
pub record IsOver (C : Signature) (X D : Instance) (gone copies : ℕ → List ℕ) (next next_copied : List ℕ) : Type 0 where
  pub host_ascends : (object : ℕ) → object < C.objects → ascends (X.names object) ≡ true
  pub host_below : (object x : ℕ) → object < C.objects → Has X object x → x < slice_index next object
  pub copies_ascend : (object : ℕ) → object < C.objects → ascends (copies object) ≡ true
  pub copies_past : (object x : ℕ) → object < C.objects → Contains (copies object) x → (slice_index next object ≤ x) × (x < slice_index next_copied object)
  pub copied : (object : ℕ) → object < C.objects → slice_index next object ≤ slice_index next_copied object
  pub names : (object : ℕ) → object < C.objects → D.names object ≡ staying (gone object) (X.names object) ++ copies object
