-- What may be wrong with the pieces of rules and watches, and with lists of them.
use Rattle.std.specs.Prelude.{◌≡◌, ◌<◌, ◌⊎◌, ℕ, Any, List, take, Option, Some, None, IsSomeAnd, option_and_then, codes, length, Result, slice_get, unwrap_or, []}
use Rattle.serde_json.specs.Data.{Data}
use Rattle.serde_json.specs.Find.{as_str, get}
use Rattle.rw_schema.specs.declared.section.Section.{Section}
use Rattle.rw_doc.specs.declared.fault.DocFault.{DocFault}
use Rattle.rw_doc.specs.declared.piece.Piece.{Piece}
use Rattle.rw_doc.specs.Entries.{HasNone, IsFirstEntry, Tells, no_code}
use Rattle.rw_doc.specs.Faults.{fault_at}
use Rattle.rw_doc.specs.Json.{as_list}
use Rattle.rw_docpattern.specs.Codes.{IsFaultOf, row}

-- ---- the pieces of one item

-- a piece and what may be wrong with it, above the pieces that come later
abbrev pub piece_row : ℕ → (ℕ → Type 0) → (ℕ → ℕ → Type 0) → ℕ → ℕ → Type 0
piece_row number Has Others piece code = ((piece ≡ number) × Has code) ⊎ Others piece code

-- no piece comes later
abbrev pub no_piece : ℕ → ℕ → Type 0
no_piece piece code = ⊥

-- the fault is told at a piece of the item at the place: the first piece with a fault, and the least code of it
pub record IsFaultIn (section : Section) (place : ℕ) (Has : ℕ → ℕ → Type 0) (fault : DocFault) : Type 0 where
  pub is_at : fault ≡ fault_at fault.code section place fault.second
  pub first : IsFirstEntry Has fault.second fault.code

-- nothing is wrong with any piece
abbrev pub HasNoneIn : (ℕ → ℕ → Type 0) → Type 0
HasNoneIn Has = (piece : ℕ) → HasNone (Has piece)

-- a reading of the item at the place gives a value where nothing is wrong with its pieces, and else the first fault of them
abbrev pub TellsFirstPiece : {A : Type 0} → Section → ℕ → (ℕ → ℕ → Type 0) → Result A DocFault → Type 0
TellsFirstPiece section place Has reading = Tells (HasNoneIn Has) (IsFaultIn section place Has) reading

-- ---- lists of items

-- what may be wrong with a list itself, which may be absent and has at most so many items
abbrev pub ListHas : ℕ → Option Data → ℕ → Type 0
ListHas most value =
    row 2 (IsSomeAnd value (λ value. as_list value ≡ None))
    (row 4 (IsSomeAnd value (λ value. IsSomeAnd (as_list value) (λ items. most < length items)))
    no_code)

-- the items that are written
abbrev pub items_written : Option Data → List Data
items_written None = []
items_written (Some value) = unwrap_or (as_list value) []

-- what may be wrong with the item at a place: this, of the items before it and of itself
abbrev pub ItemHas : (List Data → Data → ℕ → ℕ → Type 0) → List Data → ℕ → ℕ → ℕ → Type 0
ItemHas Has items place piece code = IsSomeAnd (slice_get items place) (λ item. Has (take place items) item piece code)

-- the first item with a fault is told, at the first of its pieces with one
pub record IsFaultOfItems (section : Section) (Has : ℕ → ℕ → ℕ → Type 0) (fault : DocFault) : Type 0 where
  pub item : IsFaultIn section fault.first (Has fault.first) fault
  pub before : (other : ℕ) → other < fault.first → HasNoneIn (Has other)

-- nothing is wrong with any item
abbrev pub HasNoneAmong : (ℕ → ℕ → ℕ → Type 0) → Type 0
HasNoneAmong Has = (place : ℕ) → HasNoneIn (Has place)

-- the place of a list itself
abbrev pub own_piece : Section → Piece
own_piece section = record { section = section; first = 0; second = 0 }

-- a reading of a list gives a value where nothing is wrong with it and its items; else the fault of the list itself comes first,
-- and then that of the first item with one
abbrev pub TellsList : {A : Type 0} → Section → (ℕ → Type 0) → (ℕ → ℕ → ℕ → Type 0) → Result A DocFault → Type 0
TellsList section Own Has reading =
    Tells (HasNone Own × HasNoneAmong Has) (λ fault. IsFaultOf (own_piece section) Own fault ⊎ (HasNone Own × IsFaultOfItems section Has fault)) reading

-- ---- names

-- the name that an item is written with
abbrev pub name_written : Data → Option (List ℕ)
name_written item = option_and_then as_str (get (codes "name") item)

-- one of the items is written with the name
abbrev pub IsNameOf : List Data → List ℕ → Type 0
IsNameOf items name = Any (λ item. name_written item ≡ Some name) items
