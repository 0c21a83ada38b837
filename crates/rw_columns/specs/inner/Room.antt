-- Columns that are given more room.
use Rattle.std.specs.Prelude.{◌≡◌, ◌≤◌, ℕ, List, length}
use Rattle.rw_column.specs.Threads.{Threaded}
use Rattle.rw_columns.specs.Columned.{Columned, column_at}

-- the same numbers stand at the same places
pub record IsKept (old new : Threaded) : Type 0 where
  pub values : new.values ≡ old.values
  pub targets : new.targets ≡ old.targets

-- at the same numbers in each column
pub record AreKept (old new : List Threaded) : Type 0 where
  pub count : length new ≡ length old
  pub each : (place : ℕ) → IsKept (column_at old place) (column_at new place)

-- there is room for so many places and numbers
pub record IsRoomy (places targets : ℕ) (column : Threaded) : Type 0 where
  pub room : places ≤ column.room
  pub target_room : targets ≤ column.target_room

-- the columns hold the same lists, over the same signature
pub record KeepLists (old new : Columned) : Type 0 where
  pub signature : new.signature ≡ old.signature
  pub names : AreKept old.names new.names
  pub arrows : AreKept old.arrows new.arrows
  pub cells : new.cells ≡ old.cells
