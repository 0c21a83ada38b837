-- The lists of an instance.
use Rattle.std.specs.Prelude.{ℕ, List, [], Option, slice_index_or}
use Rattle.rw_schema.specs.declared.atom.Atom.{Atom}

-- the lists that an instance is kept in
pub record RowLists : Type 0 where
  -- of each object the names of its parts
  pub names : List (List ℕ)
  -- of each arrow one image for each name of its source, in the order of the names
  pub arrows : List (List ℕ)
  -- of each attribute one cell for each name of its object, in the order of the names
  pub cells : List (List (Option Atom))
  -- of each object the next name to be given
  pub next : List ℕ

-- the list at a place, or the empty list where none is there
abbrev pub list_at : {A : Type 0} → List (List A) → ℕ → List A
list_at lists place = slice_index_or lists place []
