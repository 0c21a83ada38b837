-- Sections and pieces that are read one after the other.
use Rattle.std.proofs.Common.{◌≡◌, ◌<◌, ◌≤◌, ◌⊎◌, inl, inr, ℕ, Bool, true, false, Option, Some, None, Result, Ok, Err, refl, arith}
use Rattle.serde_json.specs.Data.{Data}
use Rattle.rw_doc.specs.declared.fault.DocFault.{DocFault}
use Rattle.rw_doc.specs.Chain.{and_then, some_or, checked}
use Rattle.rw_doc.specs.Entries.{TellsInOrder}

-- the faults at one place, or others
abbrev pub or_place : ℕ → (DocFault → Type 0) → (ℕ → DocFault → Type 0) → ℕ → DocFault → Type 0
or_place this Faults Others place fault = (place ≡ this) × Faults fault ⊎ Others place fault

-- the faults at one place alone
abbrev pub only_place : ℕ → (DocFault → Type 0) → ℕ → DocFault → Type 0
only_place this Faults place fault = (place ≡ this) × Faults fault

-- no others are before the place
abbrev pub IsBehind : ℕ → (ℕ → DocFault → Type 0) → Type 0
IsBehind this Others = (place : ℕ) (fault : DocFault) → Others place fault → this ≤ place

-- what is read has one answer
pub one_value : {A E : Type 0} (reading : Result A E) (x y : A) → reading ≡ Ok x → reading ≡ Ok y → x ≡ y
one_value reading x y one other = cc

-- a value or a fault
pub no_fault : {A E : Type 0} (reading : Result A E) (x : A) (fault : E) → reading ≡ Ok x → reading ≡ Err fault → ⊥
no_fault reading x fault one other = cc

-- where no fault is at the place, it is another's
other_place : (this : ℕ) (Faults : DocFault → Type 0) (Others : ℕ → DocFault → Type 0) → ((fault : DocFault) → Faults fault → ⊥)
    → (place : ℕ) (fault : DocFault) → or_place this Faults Others place fault → Others place fault
other_place this Faults Others never place fault (inl here) = absurd (never fault here.1)
other_place this Faults Others never place fault (inr other) = other

-- where no fault is at the place, the others decide
pub order_other : {A : Type 0} (this : ℕ) (Faults : DocFault → Type 0) (Others : ℕ → DocFault → Type 0) (reading : Result A DocFault) → ((fault : DocFault) → Faults fault → ⊥)
    → TellsInOrder Others reading → TellsInOrder (or_place this Faults Others) reading
order_other this Faults Others (Ok value) never tells = λ place fault has. tells place fault (other_place this Faults Others never place fault has)
order_other this Faults Others (Err fault) never tells =
    (tells.0, inr tells.1, λ other less earlier has. tells.2 other less earlier (other_place this Faults Others never other earlier has))

-- a fault at the place is the first
pub order_here : (A : Type 0) (this : ℕ) (Faults : DocFault → Type 0) (Others : ℕ → DocFault → Type 0) (fault : DocFault) → IsBehind this Others → Faults fault
    → TellsInOrder {A = A} (or_place this Faults Others) (Err fault)
order_here A this Faults Others fault behind here = (this, inl (refl, here), not_before)
  where
    not_before : (other : ℕ) → other < this → (earlier : DocFault) → or_place this Faults Others other earlier → ⊥
    not_before other less earlier (inl has) = let same : other ≡ this = has.0 in omega arith
    not_before other less earlier (inr has) = let more : this ≤ other = behind other earlier has in omega arith

-- a section, and those behind it
pub order_read : {A B : Type 0} (this : ℕ) (Faults : DocFault → Type 0) (Others : ℕ → DocFault → Type 0) (reading : Result A DocFault) (f : A → Result B DocFault)
    → IsBehind this Others → ((fault : DocFault) → reading ≡ Err fault → Faults fault) → ((x : A) → reading ≡ Ok x → (fault : DocFault) → Faults fault → ⊥)
    → ((x : A) → reading ≡ Ok x → TellsInOrder Others (f x)) → TellsInOrder (or_place this Faults Others) (and_then reading f)
order_read {B = B} this Faults Others (Ok x) f behind fails passes rest = order_other this Faults Others (f x) (passes x refl) (rest x refl)
order_read {B = B} this Faults Others (Err fault) f behind fails passes rest = order_here B this Faults Others fault behind (fails fault refl)

-- the last section
pub order_last : {A B : Type 0} (this : ℕ) (Faults : DocFault → Type 0) (reading : Result A DocFault) (h : A → B)
    → ((fault : DocFault) → reading ≡ Err fault → Faults fault) → ((x : A) → reading ≡ Ok x → (fault : DocFault) → Faults fault → ⊥)
    → TellsInOrder (only_place this Faults) (and_then reading (λ x. Ok (h x)))
order_last this Faults (Ok x) h fails passes = λ place fault has. passes x refl fault has.1
order_last this Faults (Err fault) h fails passes = (this, (refl, fails fault refl), λ other less earlier has. let same : other ≡ this = has.0 in omega arith)

-- keys of which two have to be there
pub order_keys : {A : Type 0} (fault : DocFault) (OtherKeys : Type 0) (Others : ℕ → DocFault → Type 0) (known : Bool) (first second : Option Data) (rest : Data → Data → Result A DocFault)
    → (known ≡ false → OtherKeys) → (first ≡ None → OtherKeys) → (second ≡ None → OtherKeys)
    → ((x y : Data) → known ≡ true → first ≡ Some x → second ≡ Some y → OtherKeys → ⊥)
    → ((x y : Data) → first ≡ Some x → second ≡ Some y → TellsInOrder Others (rest x y))
    → TellsInOrder (or_place 0 (λ given. (given ≡ fault) × OtherKeys) Others)
    (checked fault known (and_then (some_or fault first) (λ x. and_then (some_or fault second) (λ y. rest x y))))
order_keys {A = A} fault OtherKeys Others false first second rest unknown no_first no_second all sections =
    order_here A 0 (λ (given : DocFault). (given ≡ fault) × OtherKeys) Others fault (λ place given has. omega arith) (refl, unknown refl)
order_keys {A = A} fault OtherKeys Others true None second rest unknown no_first no_second all sections =
    order_here A 0 (λ (given : DocFault). (given ≡ fault) × OtherKeys) Others fault (λ place given has. omega arith) (refl, no_first refl)
order_keys {A = A} fault OtherKeys Others true (Some x) None rest unknown no_first no_second all sections =
    order_here A 0 (λ (given : DocFault). (given ≡ fault) × OtherKeys) Others fault (λ place given has. omega arith) (refl, no_second refl)
order_keys {A = A} fault OtherKeys Others true (Some x) (Some y) rest unknown no_first no_second all sections =
    order_other 0 (λ (given : DocFault). (given ≡ fault) × OtherKeys) Others (rest x y) (λ given has. all x y refl refl refl has.1) (sections x y refl refl)
