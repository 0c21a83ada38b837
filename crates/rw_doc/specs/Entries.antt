-- What a document's entries have wrong, and the first of it.
use Rattle.std.specs.Prelude.{◌≡◌, ◌<◌, ◌⊎◌, ℕ, List, Option, Some, None, Result, Ok, Err, option_and_then, slice_get}
use Rattle.serde_json.specs.Data.{Data}
use Rattle.rw_schema.specs.declared.section.Section.{Section}
use Rattle.rw_doc.specs.declared.fault.DocFault.{DocFault}
use Rattle.rw_doc.specs.declared.piece.Piece.{Piece}
use Rattle.rw_doc.specs.Faults.{fault_at}
use Rattle.rw_doc.specs.Pieces.{fault_in}

-- What is wrong with an entry is told by its code: Has code says that the code's condition holds of the entry. It may
-- presuppose what lesser codes and earlier entries settle, since it is looked at only where these hold of nothing.

-- the code's condition holds of the entry, and that of no lesser code
pub record IsLeastCode (Has : ℕ → Type 0) (code : ℕ) : Type 0 where
  pub stands : Has code
  pub least : (other : ℕ) → other < code → Has other → ⊥

-- no code's condition holds of the entry
abbrev pub HasNone : (ℕ → Type 0) → Type 0
HasNone Has = (code : ℕ) → Has code → ⊥

-- nothing is ever wrong with the entry
abbrev pub no_code : ℕ → Type 0
no_code code = ⊥

-- the first entry of which some code's condition holds stands at the place, and the code is the least of it
pub record IsFirstEntry (Has : ℕ → ℕ → Type 0) (place code : ℕ) : Type 0 where
  pub entry : IsLeastCode (Has place) code
  pub before : (other : ℕ) → other < place → HasNone (Has other)

-- nothing is wrong with a list itself, nor with an entry of it
pub record IsClear (Own : ℕ → Type 0) (Has : ℕ → ℕ → Type 0) : Type 0 where
  pub own : HasNone Own
  pub entries : (place : ℕ) → HasNone (Has place)

-- the list itself has the code, told at place 0; or nothing is wrong with it, and its first entry with a fault has the code
abbrev pub IsFirstOfList : (ℕ → Type 0) → (ℕ → ℕ → Type 0) → ℕ → ℕ → Type 0
IsFirstOfList Own Has place code = ((place ≡ 0) × IsLeastCode Own code) ⊎ (HasNone Own × IsFirstEntry Has place code)

-- nothing is wrong with a list of lists itself, with one of the lists, nor with an entry of one
pub record AreClear (Own : ℕ → Type 0) (OwnOf : ℕ → ℕ → Type 0) (Has : ℕ → ℕ → ℕ → Type 0) : Type 0 where
  pub own : HasNone Own
  pub lists : (list : ℕ) → IsClear (OwnOf list) (Has list)

-- the first list with a fault is this, and in it stands the first fault
pub record IsFirstList (OwnOf : ℕ → ℕ → Type 0) (Has : ℕ → ℕ → ℕ → Type 0) (list place code : ℕ) : Type 0 where
  pub fault : IsFirstOfList (OwnOf list) (Has list) place code
  pub before : (other : ℕ) → other < list → IsClear (OwnOf other) (Has other)

-- the list of lists itself has the code, told at the places 0; or nothing is wrong with it, and its first list with a fault has it
abbrev pub IsFirstOfLists : (ℕ → Type 0) → (ℕ → ℕ → Type 0) → (ℕ → ℕ → ℕ → Type 0) → ℕ → ℕ → ℕ → Type 0
IsFirstOfLists Own OwnOf Has list place code =
    ((list ≡ 0) × (place ≡ 0) × IsLeastCode Own code) ⊎ (HasNone Own × IsFirstList OwnOf Has list place code)

-- what a reading tells: it gives a value where nothing is wrong, and else the first fault
abbrev pub Tells : {A : Type 0} → Type 0 → (DocFault → Type 0) → Result A DocFault → Type 0
Tells NothingIsWrong IsFirst (Ok value) = NothingIsWrong
Tells NothingIsWrong IsFirst (Err fault) = IsFirst fault

-- a section that is a list tells its first fault: that of the list itself, or of the first entry that has one
abbrev pub TellsFirst : {A : Type 0} → Section → (ℕ → Type 0) → (ℕ → ℕ → Type 0) → Result A DocFault → Type 0
TellsFirst section Own Has reading = Tells (IsClear Own Has)
    (λ fault. (fault ≡ fault_at fault.code section fault.first 0) × IsFirstOfList Own Has fault.first fault.code) reading

-- so does a section that is a list of lists
abbrev pub TellsFirstOfLists : {A : Type 0} → Section → (ℕ → Type 0) → (ℕ → ℕ → Type 0) → (ℕ → ℕ → ℕ → Type 0) → Result A DocFault → Type 0
TellsFirstOfLists section Own OwnOf Has reading = Tells (AreClear Own OwnOf Has)
    (λ fault. (fault ≡ fault_at fault.code section fault.first fault.second) × IsFirstOfLists Own OwnOf Has fault.first fault.second fault.code) reading

-- ---- pieces

-- a piece of a document tells the least of its codes
abbrev pub TellsLeast : {A : Type 0} → Piece → (ℕ → Type 0) → Result A DocFault → Type 0
TellsLeast piece Has reading = Tells (HasNone Has) (λ fault. (fault ≡ fault_in piece fault.code) × IsLeastCode Has fault.code) reading

-- what is read in order, section by section or piece by piece, tells the fault of the first that has one. Has place fault says
-- that the section at the place has this fault; it may presuppose that those before have none
abbrev pub TellsInOrder : {A : Type 0} → (ℕ → DocFault → Type 0) → Result A DocFault → Type 0
TellsInOrder Has reading = Tells ((place : ℕ) (fault : DocFault) → Has place fault → ⊥)
    (λ fault. (place : ℕ) × Has place fault × ((other : ℕ) → other < place → (earlier : DocFault) → Has other earlier → ⊥)) reading

-- ---- what is written at a place

-- what the value at the place is in a form that an entry may have
abbrev pub form_at : {A : Type 0} → (Data → Option A) → List Data → ℕ → Option A
form_at form items place = option_and_then form (slice_get items place)

-- a value stands at the place, and is of another form
abbrev pub HasOtherForm : {A : Type 0} → (Data → Option A) → List Data → ℕ → Type 0
HasOtherForm form items place = (value : Data) × (slice_get items place ≡ Some value) × (form value ≡ None)

-- what is written at the place has the property
abbrev pub IsWritten : {A : Type 0} → (Data → Option A) → List Data → ℕ → (A → Type 0) → Type 0
IsWritten form items place Property = (entry : _) × (form_at form items place ≡ Some entry) × Property entry

-- the name at the place is the name of an earlier entry, too
abbrev pub RepeatsName : {A : Type 0} → (Data → Option A) → (A → List ℕ) → List Data → ℕ → A → Type 0
RepeatsName form name items place entry =
    (other : ℕ) × (other < place) × (earlier : _) × (form_at form items other ≡ Some earlier) × (name earlier ≡ name entry)

-- none of the names is this
abbrev pub IsNoneOf : List (List ℕ) → List ℕ → Type 0
IsNoneOf names name = (place : ℕ) → slice_get names place ≡ Some name → ⊥
