-- A reading, test by test, tells the least code of a table.
use Rattle.std.proofs.Common.{◌≡◌, inl, inr, ℕ, ◌<◌, ◌≤◌, Bool, true, false, Option, Some, None, Result, Ok, Err, refl, arith}
use Rattle.rw_doc.specs.declared.fault.DocFault.{DocFault}
use Rattle.rw_doc.specs.declared.piece.Piece.{Piece}
use Rattle.rw_doc.specs.Chain.{and_then, checked, some_or}
use Rattle.rw_doc.specs.Entries.{no_code}
use Rattle.rw_doc.specs.Pieces.{fault_in}
use Rattle.rw_docpattern.specs.Codes.{IsFaultOf, TellsLeast, row}

-- no code of the table is below this one
abbrev pub IsFrom : ℕ → (ℕ → Type 0) → Type 0
IsFrom code Has = (other : ℕ) → other < code → Has other → ⊥

-- so is the table without rows
pub from_none : (code : ℕ) → IsFrom code no_code
from_none code other less has = has

-- so is one with a row more
pub from_row : (code next : ℕ) (Condition : Type 0) (Others : ℕ → Type 0) → code ≤ next → IsFrom next Others → IsFrom code (row code Condition Others)
from_row code next Condition Others order others other less (inl has) = let same : other ≡ code = has.0 in omega arith
from_row code next Condition Others order others other less (inr has) = others other (omega arith) has

-- a fault behind a condition that does not hold
pub past_fault : (piece : Piece) (code : ℕ) (Condition : Type 0) (Others : ℕ → Type 0) (fault : DocFault)
    → (Condition → ⊥) → IsFaultOf piece Others fault → IsFaultOf piece (row code Condition Others) fault
past_fault piece code Condition Others fault never told = record {
  place = told.place;
  code = record {
    stands = inr told.code.stands;
    least = λ other less has. elim has [ inl here ↦ never here.1 | inr later ↦ told.code.least other less later ];
  };
}

-- a reading behind a condition that does not hold
pub past : {A : Type 0} (piece : Piece) (code : ℕ) (Condition : Type 0) (Others : ℕ → Type 0) (reading : Result A DocFault)
    → (Condition → ⊥) → TellsLeast piece Others reading → TellsLeast piece (row code Condition Others) reading
past piece code Condition Others (Ok x) never none = λ other has. elim has [ inl here ↦ never here.1 | inr later ↦ none other later ]
past piece code Condition Others (Err fault) never told = past_fault piece code Condition Others fault never told

-- the condition's code is told where the condition holds
pub here : (piece : Piece) (code next : ℕ) (Condition : Type 0) (Others : ℕ → Type 0) → code ≤ next → IsFrom next Others → Condition
    → IsFaultOf piece (row code Condition Others) (fault_in piece code)
here piece code next Condition Others order from holds = record {
  place = refl;
  code = record {
    stands = inl (refl, holds);
    least = from_row code next Condition Others order from;
  };
}

-- a test that fails where a condition holds, and then what comes after it
pub tells_checked : {A : Type 0} (piece : Piece) (code next : ℕ) (Condition : Type 0) (Others : ℕ → Type 0) (test : Bool) (reading : Result A DocFault)
    → code ≤ next → IsFrom next Others → (test ≡ false → Condition) → (test ≡ true → Condition → ⊥) → (test ≡ true → TellsLeast piece Others reading)
    → TellsLeast piece (row code Condition Others) (checked (fault_in piece code) test reading)
tells_checked piece code next Condition Others true reading order from fails passes later = past piece code Condition Others reading (passes refl) (later refl)
tells_checked piece code next Condition Others false reading order from fails passes later = here piece code next Condition Others order from (fails refl)

-- something that is not there where a condition holds, and then what comes after it
pub tells_some : {A B : Type 0} (piece : Piece) (code next : ℕ) (Condition : Type 0) (Others : ℕ → Type 0) (found : Option A) (second : A → Result B DocFault)
    → code ≤ next → IsFrom next Others → (found ≡ None → Condition) → ((x : A) → found ≡ Some x → Condition → ⊥)
    → ((x : A) → found ≡ Some x → TellsLeast piece Others (second x)) → TellsLeast piece (row code Condition Others) (and_then (some_or (fault_in piece code) found) second)
tells_some piece code next Condition Others (Some x) second order from fails passes later = past piece code Condition Others (second x) (passes x refl) (later x refl)
tells_some piece code next Condition Others None second order from fails passes later = here piece code next Condition Others order from (fails refl)

-- the same of a test, before what is made of the whole
pub tells_checked_then : {A B : Type 0} (piece : Piece) (code next : ℕ) (Condition : Type 0) (Others : ℕ → Type 0) (test : Bool) (reading : Result A DocFault) (last : A → Result B DocFault)
    → code ≤ next → IsFrom next Others → (test ≡ false → Condition) → (test ≡ true → Condition → ⊥) → (test ≡ true → TellsLeast piece Others (and_then reading last))
    → TellsLeast piece (row code Condition Others) (and_then (checked (fault_in piece code) test reading) last)
tells_checked_then piece code next Condition Others true reading last order from fails passes later = past piece code Condition Others (and_then reading last) (passes refl) (later refl)
tells_checked_then piece code next Condition Others false reading last order from fails passes later = here piece code next Condition Others order from (fails refl)

-- the same of something that is not there
pub tells_some_then : {A B C : Type 0} (piece : Piece) (code next : ℕ) (Condition : Type 0) (Others : ℕ → Type 0) (found : Option A) (second : A → Result B DocFault) (last : B → Result C DocFault)
    → code ≤ next → IsFrom next Others → (found ≡ None → Condition) → ((x : A) → found ≡ Some x → Condition → ⊥)
    → ((x : A) → found ≡ Some x → TellsLeast piece Others (and_then (second x) last))
    → TellsLeast piece (row code Condition Others) (and_then (and_then (some_or (fault_in piece code) found) second) last)
tells_some_then piece code next Condition Others (Some x) second last order from fails passes later =
    past piece code Condition Others (and_then (second x) last) (passes x refl) (later x refl)
tells_some_then piece code next Condition Others None second last order from fails passes later = here piece code next Condition Others order from (fails refl)

-- nothing is wrong behind the last row
pub tells_none : {A : Type 0} (piece : Piece) (x : A) → TellsLeast piece no_code (Ok x)
tells_none piece x code has = has
