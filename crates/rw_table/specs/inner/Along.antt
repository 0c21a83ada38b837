-- Instances as arrows alone see them: what a walk along arrows depends on.
use Rattle.std.specs.Prelude.{◌≡◌, ◌<◌, ℕ, List, [], length, Some, slice_get}
use Rattle.rw_schema.specs.declared.signature.ArrowEnds.{ArrowEnds}
use Rattle.rw_schema.specs.RowLists.{RowLists, list_at}
use Rattle.rw_spec.specs.Instance.{Instance, instance_of}

-- the instance over a schema with these arrows alone
abbrev pub instance_along : List ArrowEnds → RowLists → Instance
instance_along arrows rows = instance_of (record { objects = length rows.names; arrows = arrows; attributes = []; equations = [] }) rows

-- there is one row for each arrow, with one image for each name of the arrow's source
pub record AreRowsOf (arrows : List ArrowEnds) (rows : RowLists) : Type 0 where
  pub count : length rows.arrows ≡ length arrows
  pub sources : (a : ℕ) (ends : ArrowEnds) → slice_get arrows a ≡ Some ends → ends.source.0 < length rows.names
  pub whole : (a : ℕ) (ends : ArrowEnds) → slice_get arrows a ≡ Some ends → length (list_at rows.arrows a) ≡ length (list_at rows.names ends.source.0)
