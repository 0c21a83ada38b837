-- What may be wrong with a piece, as a table: codes, and what each means of the piece.
use Rattle.std.specs.Prelude.{◌≡◌, ◌⊎◌, ℕ, Result}
use Rattle.rw_doc.specs.declared.fault.DocFault.{DocFault}
use Rattle.rw_doc.specs.declared.piece.Piece.{Piece}
use Rattle.rw_doc.specs.Entries.{HasNone, IsLeastCode, Tells}
use Rattle.rw_doc.specs.Pieces.{fault_in}

-- a code and its condition, above the rows of a table
abbrev pub row : ℕ → Type 0 → (ℕ → Type 0) → ℕ → Type 0
row code Condition Others other = ((other ≡ code) × Condition) ⊎ Others other

-- the fault is told at the piece, and its code is the least that the piece has
pub record IsFaultOf (piece : Piece) (Has : ℕ → Type 0) (fault : DocFault) : Type 0 where
  pub place : fault ≡ fault_in piece fault.code
  pub code : IsLeastCode Has fault.code

-- a reading of the piece gives a value where nothing is wrong with it, and else its least code
abbrev pub TellsLeast : {A : Type 0} → Piece → (ℕ → Type 0) → Result A DocFault → Type 0
TellsLeast piece Has reading = Tells (HasNone Has) (IsFaultOf piece Has) reading
