-- The first fault of entries that are read one after the other.
use Rattle.std.proofs.Common.{◌≡◌, ◌<◌, ◌≤◌, ◌+◌, ◌⊎◌, inl, inr, ℕ, zero, suc, Bool, true, false, Option, Some, None, Result, Ok, Err, List, [], ◌∷◌, ◌++◌, slice_get, refl, sym, subst, add-zero, zero-add, arith}
use Rattle.rw_schema.specs.declared.section.Section.{Section}
use Rattle.rw_doc.specs.declared.fault.DocFault.{DocFault}
use Rattle.rw_doc.specs.Chain.{and_then, each_in, each_after, some_or, checked}
use Rattle.rw_doc.specs.Entries.{IsLeastCode, HasNone, IsClear, IsFirstOfList, no_code, Tells, TellsFirst}
use Rattle.rw_doc.specs.Faults.{fault_at}

-- ---- one entry

-- a reading of one entry tells the least code
abbrev pub TellsCode : {A : Type 0} → (ℕ → Type 0) → (ℕ → DocFault) → Result A DocFault → Type 0
TellsCode Has at reading = Tells (HasNone Has) (λ fault. (code : ℕ) × (fault ≡ at code) × IsLeastCode Has code) reading

-- one code's condition, or others
abbrev pub or_code : ℕ → Type 0 → (ℕ → Type 0) → ℕ → Type 0
or_code this Holds Others code = (code ≡ this) × Holds ⊎ Others code

-- one code's condition alone
abbrev pub only_code : ℕ → Type 0 → ℕ → Type 0
only_code this Holds code = (code ≡ this) × Holds

-- the others are of no lesser code
abbrev pub IsBeyond : ℕ → (ℕ → Type 0) → Type 0
IsBeyond this Others = (code : ℕ) → Others code → this ≤ code

-- no code is less
no_less : (this : ℕ) (Holds : Type 0) (Others : ℕ → Type 0) → IsBeyond this Others → (code : ℕ) → code < this → or_code this Holds Others code → ⊥
no_less this Holds Others beyond code less (inl here) = let same : code ≡ this = here.0 in omega arith
no_less this Holds Others beyond code less (inr other) = let more : this ≤ code = beyond code other in omega arith

-- where the condition does not hold, an other does
other_holds : (this : ℕ) (Holds : Type 0) (Others : ℕ → Type 0) → (Holds → ⊥) → (code : ℕ) → or_code this Holds Others code → Others code
other_holds this Holds Others never code (inl here) = absurd (never here.1)
other_holds this Holds Others never code (inr other) = other

-- where the condition does not hold, the others decide
pub tells_other : {A : Type 0} (this : ℕ) (Holds : Type 0) (Others : ℕ → Type 0) (at : ℕ → DocFault) (reading : Result A DocFault)
    → (Holds → ⊥) → TellsCode Others at reading → TellsCode (or_code this Holds Others) at reading
tells_other this Holds Others at (Ok value) never tells = λ code has. tells code (other_holds this Holds Others never code has)
tells_other this Holds Others at (Err fault) never tells = (
  tells.0,
  tells.1,
  record {
    stands = inr tells.2.stands;
    least = λ code less has. tells.2.least code less (other_holds this Holds Others never code has);
  },
)

-- where it holds, its code is the least
pub least_here : (this : ℕ) (Holds : Type 0) (Others : ℕ → Type 0) → IsBeyond this Others → Holds → IsLeastCode (or_code this Holds Others) this
least_here this Holds Others beyond holds = record { stands = inl (refl, holds); least = no_less this Holds Others beyond }

-- a test
pub tells_checked : {A : Type 0} (this : ℕ) (Holds : Type 0) (Others : ℕ → Type 0) (at : ℕ → DocFault) (test : Bool) (reading : Result A DocFault)
    → IsBeyond this Others → (test ≡ false → Holds) → (test ≡ true → Holds → ⊥) → (test ≡ true → TellsCode Others at reading)
    → TellsCode (or_code this Holds Others) at (checked (at this) test reading)
tells_checked this Holds Others at true reading beyond fails passes rest = tells_other this Holds Others at reading (passes refl) (rest refl)
tells_checked this Holds Others at false reading beyond fails passes rest = (this, refl, least_here this Holds Others beyond (fails refl))

-- something that has to be there
pub tells_some : {A B : Type 0} (this : ℕ) (Holds : Type 0) (Others : ℕ → Type 0) (at : ℕ → DocFault) (value : Option A) (f : A → Result B DocFault)
    → IsBeyond this Others → (value ≡ None → Holds) → ((x : A) → value ≡ Some x → Holds → ⊥) → ((x : A) → value ≡ Some x → TellsCode Others at (f x))
    → TellsCode (or_code this Holds Others) at (and_then (some_or (at this) value) f)
tells_some this Holds Others at (Some x) f beyond fails passes rest = tells_other this Holds Others at (f x) (passes x refl) (rest x refl)
tells_some this Holds Others at None f beyond fails passes rest = (this, refl, least_here this Holds Others beyond (fails refl))

-- a reading whose only fault is this code's
pub tells_read : {A B : Type 0} (this : ℕ) (Holds : Type 0) (Others : ℕ → Type 0) (at : ℕ → DocFault) (reading : Result A DocFault) (f : A → Result B DocFault)
    → IsBeyond this Others → ((fault : DocFault) → reading ≡ Err fault → (fault ≡ at this) × Holds) → ((x : A) → reading ≡ Ok x → Holds → ⊥)
    → ((x : A) → reading ≡ Ok x → TellsCode Others at (f x)) → TellsCode (or_code this Holds Others) at (and_then reading f)
tells_read this Holds Others at (Ok x) f beyond fails passes rest = tells_other this Holds Others at (f x) (passes x refl) (rest x refl)
tells_read this Holds Others at (Err fault) f beyond fails passes rest =
    let here = fails fault refl in (this, here.0, least_here this Holds Others beyond here.1)

-- the last condition of an entry, beside which there is none
pub tells_alone : {A : Type 0} (this : ℕ) (Holds : Type 0) (at : ℕ → DocFault) (reading : Result A DocFault)
    → TellsCode (or_code this Holds no_code) at reading → TellsCode (only_code this Holds) at reading
tells_alone this Holds at (Ok value) tells = λ code has. tells code (inl has)
tells_alone this Holds at (Err fault) tells = (
  tells.0,
  tells.1,
  record {
    stands = alone tells.2.stands;
    least = λ code less has. tells.2.least code less (inl has);
  },
)
  where
    alone : or_code this Holds no_code tells.0 → only_code this Holds tells.0
    alone (inl here) = here
    alone (inr never) = absurd never

-- ---- entries one after the other

-- the first place has a fault of which this holds, and nothing is wrong before
abbrev pub AtFirst : (ℕ → Type 0) → (ℕ → DocFault → Type 0) → DocFault → Type 0
AtFirst Clear IsFirst fault = (place : ℕ) × IsFirst place fault × ((other : ℕ) → other < place → Clear other)

-- what holds at the first place and behind it holds everywhere
everywhere : (Clear : ℕ → Type 0) → Clear 0 → ((place : ℕ) → Clear (suc place)) → (place : ℕ) → Clear place
everywhere Clear here later zero = here
everywhere Clear here later (suc place) = later place

-- what holds at the first place and before a later one behind it holds before that
everywhere_before : (Clear : ℕ → Type 0) (place : ℕ) → Clear 0 → ((other : ℕ) → other < place → Clear (suc other)) → (other : ℕ) → other < suc place → Clear other
everywhere_before Clear place here later zero less = here
everywhere_before Clear place here later (suc other) less = later other (omega arith)

-- an entry, and those behind it
tells_behind : {A : Type 0} (Clear : ℕ → Type 0) (IsFirst : ℕ → DocFault → Type 0) (rest : Result A DocFault) → Clear 0
    → Tells ((place : ℕ) → Clear (suc place)) (AtFirst (λ place. Clear (suc place)) (λ place. IsFirst (suc place))) rest
    → Tells ((place : ℕ) → Clear place) (AtFirst Clear IsFirst) rest
tells_behind Clear IsFirst (Ok value) here later = everywhere Clear here later
tells_behind Clear IsFirst (Err fault) here later = (suc later.0, later.1, everywhere_before Clear later.0 here later.2)

-- the first entry, and then the others
tells_next : {A B : Type 0} (Clear : ℕ → Type 0) (IsFirst : ℕ → DocFault → Type 0) (reading : Result A DocFault) (next : A → Result B DocFault)
    → Tells (Clear 0) (IsFirst 0) reading
    → ((x : A) → reading ≡ Ok x → Tells ((place : ℕ) → Clear (suc place)) (AtFirst (λ place. Clear (suc place)) (λ place. IsFirst (suc place))) (next x))
    → Tells ((place : ℕ) → Clear place) (AtFirst Clear IsFirst) (and_then reading next)
tells_next Clear IsFirst (Ok x) next here later = tells_behind Clear IsFirst (next x) here (later x refl)
tells_next Clear IsFirst (Err fault) next here later = (0, here, λ other less. absurd (omega arith))

-- what a reading tells, it tells behind a map
pub tells_mapped : {A B : Type 0} (Clear : Type 0) (IsFirst : DocFault → Type 0) (reading : Result A DocFault) (h : A → B)
    → Tells Clear IsFirst reading → Tells Clear IsFirst (and_then reading (λ x. Ok (h x)))
tells_mapped Clear IsFirst (Ok x) h tells = tells
tells_mapped Clear IsFirst (Err fault) h tells = tells

-- entries that are each read by their place
pub each_tells : {X A : Type 0} (f : ℕ → X → Result A DocFault) (Clear : ℕ → Type 0) (IsFirst : ℕ → DocFault → Type 0) (i : ℕ) (xs : List X)
    → ((place : ℕ) (x : X) → slice_get xs place ≡ Some x → Tells (Clear place) (IsFirst place) (f (i + place) x))
    → ((place : ℕ) → slice_get xs place ≡ None → Clear place)
    → Tells ((place : ℕ) → Clear place) (AtFirst Clear IsFirst) (each_in f i xs)
each_tells f Clear IsFirst i [] entries past = λ place. past place refl
each_tells f Clear IsFirst i (x ∷ xs) entries past =
    let here : Tells (Clear 0) (IsFirst 0) (f i x) = rw add-zero at (entries 0 x refl) in
    tells_next Clear IsFirst (f i x) (λ y. and_then (each_in f (i + 1) xs) (λ ys. Ok (y ∷ ys))) here
    (λ y read. tells_mapped _ _ (each_in f (i + 1) xs) (λ ys. y ∷ ys)
    (each_tells f (λ place. Clear (suc place)) (λ place. IsFirst (suc place)) (i + 1) xs
    (λ place z there. let same : i + suc place ≡ (i + 1) + place = omega arith in
    rw same at (entries (suc place) z there)) (λ place. past (suc place))))

-- entries that are read behind what was read of those before
pub after_tells : {X A : Type 0} (f : List A → X → Result A DocFault) (IsReadTo : ℕ → List A → Type 0) (Clear : ℕ → Type 0) (IsFirst : ℕ → DocFault → Type 0)
    (before : List A) (xs : List X) → IsReadTo 0 before
    → ((place : ℕ) (x : X) (read : List A) (y : A) → slice_get xs place ≡ Some x → IsReadTo place read → f read x ≡ Ok y → IsReadTo (suc place) (read ++ y ∷ []))
    → ((place : ℕ) (x : X) (read : List A) → slice_get xs place ≡ Some x → IsReadTo place read → Tells (Clear place) (IsFirst place) (f read x))
    → ((place : ℕ) → slice_get xs place ≡ None → Clear place)
    → Tells ((place : ℕ) → Clear place) (AtFirst Clear IsFirst) (each_after f before xs)
after_tells f IsReadTo Clear IsFirst before [] start more entries past = λ place. past place refl
after_tells f IsReadTo Clear IsFirst before (x ∷ xs) start more entries past =
    tells_next Clear IsFirst (f before x) (λ y. each_after f (before ++ y ∷ []) xs) (entries 0 x before refl start)
    (λ y read. after_tells f (λ place. IsReadTo (suc place)) (λ place. Clear (suc place)) (λ place. IsFirst (suc place)) (before ++ y ∷ []) xs
    (more 0 x before y refl start read) (λ place. more (suc place)) (λ place. entries (suc place)) (λ place. past (suc place)))

-- ---- a list

-- a list tells its first fault, where the fault of each place and code is this
abbrev pub TellsFirstAt : {A : Type 0} → (ℕ → ℕ → DocFault) → (ℕ → Type 0) → (ℕ → ℕ → Type 0) → Result A DocFault → Type 0
TellsFirstAt at Own Has reading = Tells (IsClear Own Has) (λ fault. (place : ℕ) × (code : ℕ) × (fault ≡ at place code) × IsFirstOfList Own Has place code) reading

-- the entries of a list tell their first fault
abbrev pub EntriesTell : {A : Type 0} → (ℕ → ℕ → DocFault) → (ℕ → ℕ → Type 0) → Result A DocFault → Type 0
EntriesTell at Has reading = Tells ((place : ℕ) → HasNone (Has place))
    (AtFirst (λ place. HasNone (Has place)) (λ place fault. (code : ℕ) × (fault ≡ at place code) × IsLeastCode (Has place) code)) reading

-- where nothing is wrong with the list itself, the first fault of the entries is that of the list
pub entries_told : {A : Type 0} (at : ℕ → ℕ → DocFault) (Own : ℕ → Type 0) (Has : ℕ → ℕ → Type 0) (reading : Result A DocFault) → HasNone Own
    → EntriesTell at Has reading → TellsFirstAt at Own Has reading
entries_told at Own Has (Ok value) own tells = record { own = own; entries = tells }
entries_told at Own Has (Err fault) own tells = (tells.0, tells.1.0, tells.1.1, inr (own, record { entry = tells.1.2; before = tells.2 }))

-- a list, and then its entries
pub list_tells : {A B : Type 0} (at : ℕ → ℕ → DocFault) (Own : ℕ → Type 0) (Has : ℕ → ℕ → Type 0) (list : Result A DocFault) (f : A → Result B DocFault)
    → TellsCode Own (at 0) list → ((items : A) → list ≡ Ok items → EntriesTell at Has (f items)) → TellsFirstAt at Own Has (and_then list f)
list_tells at Own Has (Ok items) f own entries = entries_told at Own Has (f items) own (entries items refl)
list_tells at Own Has (Err fault) f own entries = (0, own.0, own.1, inl (refl, own.2))

-- a list whose entries are each read by their place
pub placed_tell : {X A : Type 0} (at : ℕ → ℕ → DocFault) (Own : ℕ → Type 0) (Has : ℕ → ℕ → Type 0) (list : Result (List X) DocFault) (items : List X) (f : ℕ → X → Result A DocFault)
    → TellsCode Own (at 0) list → ((read : List X) → list ≡ Ok read → items ≡ read)
    → ((place : ℕ) (x : X) → slice_get items place ≡ Some x → TellsCode (Has place) (at place) (f place x))
    → ((place : ℕ) → slice_get items place ≡ None → HasNone (Has place))
    → TellsFirstAt at Own Has (and_then list (each_in f 0))
placed_tell at Own Has list items f own are entries past =
    list_tells at Own Has list (each_in f 0) own
    (λ read is. subst (λ list. EntriesTell at Has (each_in f 0 list)) (are read is)
    (each_tells f (λ place. HasNone (Has place)) (λ place fault. (code : ℕ) × (fault ≡ at place code) × IsLeastCode (Has place) code) 0 items
    (λ place x found. rw (zero-add place) (entries place x found)) past))

-- the place and the code of a section's entry are in its fault
pub told_in_section : {A : Type 0} (section : Section) (Own : ℕ → Type 0) (Has : ℕ → ℕ → Type 0) (reading : Result A DocFault)
    → TellsFirstAt (λ place code. fault_at code section place 0) Own Has reading → TellsFirst section Own Has reading
told_in_section section Own Has (Ok value) tells = tells
told_in_section section Own Has (Err fault) tells =
    subst (λ (fault : DocFault). (fault ≡ fault_at fault.code section fault.first 0) × IsFirstOfList Own Has fault.first fault.code) (sym tells.2) (refl, tells.3)
