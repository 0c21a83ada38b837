-- An instance in columns, as a change will leave it.
use Rattle.rw_spec.specs.Instance.{Instance}
use Rattle.rw_columns.specs.Changes.{ChangeLists, changed}
use Rattle.rw_columns.specs.Columned.{Columned, instance_of_columns}

-- columns, and a change of them that is not carried out yet
pub record ChangedColumns : Type 0 where
  pub columns : Columned
  pub change : ChangeLists

-- the instance that the columns will be once the change is carried out
abbrev pub instance_after : Columned → ChangeLists → Instance
instance_after columns change = changed columns.signature (instance_of_columns columns) change
