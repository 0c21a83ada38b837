-- Lists that are read from columns.
use Rattle.std.specs.Prelude.{◌≡◌, ◌<◌, ℕ, All, List, Option, None, length, map, slice_index, slice_index_or}
use Rattle.rw_schema.specs.declared.atom.Atom.{Atom}
use Rattle.rw_schema.specs.RowLists.{list_at}
use Rattle.rw_column.specs.Threads.{Threaded, places_from}
use Rattle.rw_columns.specs.Columned.{column_at}

-- the names that the column of an object has
abbrev pub AreNamesIn : List Threaded → ℕ → List ℕ → Type 0
AreNamesIn columns object names = names ≡ places_from (column_at columns object).values 0 0

-- the next name by the column of an object
abbrev pub IsNextIn : List Threaded → ℕ → ℕ → Type 0
IsNextIn columns object next = next ≡ length (column_at columns object).values

-- the values of an arrow at the names of its source, where these are the sources of the arrows
abbrev pub IsRowIn : List Threaded → List ℕ → List (List ℕ) → ℕ → List ℕ → Type 0
IsRowIn columns sources names arrow row = row ≡ map (slice_index (column_at columns arrow).values) (list_at names (slice_index sources arrow))

-- the cells of an attribute at the names of its object, where these are the objects of the attributes
abbrev pub AreCellsIn : List (List (Option Atom)) → List ℕ → List (List ℕ) → ℕ → List (Option Atom) → Type 0
AreCellsIn lists holders names attribute cells =
    cells ≡ map (λ name. slice_index_or (list_at lists attribute) name None) (list_at names (slice_index holders attribute))

-- each object of a list has names, and these are below the bound of their place
pub record AreWithin (objects : List ℕ) (bound : ℕ → ℕ) (names : List (List ℕ)) : Type 0 where
  pub known : All (λ object. object < length names) objects
  pub within : (place : ℕ) → place < length objects → All (λ name. name < bound place) (list_at names (slice_index objects place))
