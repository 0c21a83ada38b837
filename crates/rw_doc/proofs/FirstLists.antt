-- The first fault of lists of lists.
use Rattle.std.proofs.Common.{◌≡◌, ◌+◌, inl, inr, ℕ, Option, Some, None, Result, Ok, Err, List, [], ◌∷◌, slice_get, refl, sym, ap, subst, zero-add}
use Rattle.rw_schema.specs.First.{first_in, or_else}
use Rattle.rw_schema.specs.declared.section.Section.{Section}
use Rattle.rw_doc.specs.declared.fault.DocFault.{DocFault}
use Rattle.rw_doc.specs.Chain.{and_then, each_in, unfaulted}
use Rattle.rw_doc.specs.Entries.{HasNone, IsClear, IsFirstOfList, IsFirstOfLists, Tells, TellsFirstOfLists}
use Rattle.rw_doc.specs.Faults.{fault_at}
use Rattle.rw_doc.proofs.FirstEntries.{TellsCode, TellsFirstAt, AtFirst, each_tells}

-- one of the lists tells its first fault, at its own place
abbrev pub TellsInList : {A : Type 0} → Section → ℕ → (ℕ → Type 0) → (ℕ → ℕ → Type 0) → Result A DocFault → Type 0
TellsInList section list Own Has reading = Tells (IsClear Own Has)
    (λ fault. (fault ≡ fault_at fault.code section list fault.second) × IsFirstOfList Own Has fault.second fault.code) reading

-- the place and the code are in the fault
pub told_in_list : {A : Type 0} (section : Section) (list : ℕ) (Own : ℕ → Type 0) (Has : ℕ → ℕ → Type 0) (reading : Result A DocFault)
    → TellsFirstAt (λ place code. fault_at code section list place) Own Has reading → TellsInList section list Own Has reading
told_in_list section list Own Has (Ok value) tells = tells
told_in_list section list Own Has (Err fault) tells =
    subst (λ (fault : DocFault). (fault ≡ fault_at fault.code section list fault.second) × IsFirstOfList Own Has fault.second fault.code) (sym tells.2) (refl, tells.3)

-- the first fault of the lists is that of the section
pub lists_told : {A : Type 0} (section : Section) (Own : ℕ → Type 0) (OwnOf : ℕ → ℕ → Type 0) (Has : ℕ → ℕ → ℕ → Type 0) (reading : Result A DocFault) → HasNone Own
    → Tells ((list : ℕ) → IsClear (OwnOf list) (Has list)) (AtFirst (λ list. IsClear (OwnOf list) (Has list))
    (λ list fault. (fault ≡ fault_at fault.code section list fault.second) × IsFirstOfList (OwnOf list) (Has list) fault.second fault.code)) reading
    → TellsFirstOfLists section Own OwnOf Has reading
lists_told section Own OwnOf Has (Ok value) own tells = record { own = own; lists = tells }
lists_told section Own OwnOf Has (Err fault) own tells =
    let is : fault ≡ fault_at fault.code section tells.0 fault.second = tells.1.0 in
    let list : fault.first ≡ tells.0 = ap (λ (fault : DocFault). fault.first) is in
    subst (λ (n : ℕ). (fault ≡ fault_at fault.code section n fault.second) × IsFirstOfLists Own OwnOf Has n fault.second fault.code) (sym list)
    (is, inr (own, record { fault = tells.1.1; before = tells.2 }))

-- a list of lists, and then these
pub lists_tell : {X A : Type 0} (section : Section) (Own : ℕ → Type 0) (OwnOf : ℕ → ℕ → Type 0) (Has : ℕ → ℕ → ℕ → Type 0)
    (list : Result (List X) DocFault) (items : List X) (f : ℕ → X → Result A DocFault)
    → TellsCode Own (λ code. fault_at code section 0 0) list → ((read : List X) → list ≡ Ok read → items ≡ read)
    → ((place : ℕ) (x : X) → slice_get items place ≡ Some x → TellsInList section place (OwnOf place) (Has place) (f place x))
    → ((place : ℕ) → slice_get items place ≡ None → IsClear (OwnOf place) (Has place))
    → TellsFirstOfLists section Own OwnOf Has (and_then list (each_in f 0))
lists_tell section Own OwnOf Has (Ok read) items f own are entries past =
    lists_told section Own OwnOf Has (each_in f 0 read) own
    (subst (λ list. Tells ((list : ℕ) → IsClear (OwnOf list) (Has list)) (AtFirst (λ list. IsClear (OwnOf list) (Has list))
    (λ list fault. (fault ≡ fault_at fault.code section list fault.second) × IsFirstOfList (OwnOf list) (Has list) fault.second fault.code)) (each_in f 0 list)) (are read refl)
    (each_tells f (λ list. IsClear (OwnOf list) (Has list))
    (λ list fault. (fault ≡ fault_at fault.code section list fault.second) × IsFirstOfList (OwnOf list) (Has list) fault.second fault.code) 0 items
    (λ place x found. rw (zero-add place) (entries place x found)) past))
lists_tell section Own OwnOf Has (Err fault) items f own are entries past =
    subst (λ (fault : DocFault). (fault ≡ fault_at fault.code section fault.first fault.second) × IsFirstOfLists Own OwnOf Has fault.first fault.second fault.code) (sym own.1)
    (refl, inl (refl, refl, own.2))

-- ---- the first fault of a list, as a reading

-- the fault of a reading
abbrev fault_in_reading : {A : Type 0} → Result A DocFault → Option DocFault
fault_in_reading (Ok value) = None
fault_in_reading (Err fault) = Some fault

-- a reading behind a map has the same fault
mapped_fault : {A B : Type 0} (reading : Result A DocFault) (h : A → B) → fault_in_reading (and_then reading (λ x. Ok (h x))) ≡ fault_in_reading reading
mapped_fault (Ok value) h = refl
mapped_fault (Err fault) h = refl

-- the first fault in a list is that of the reading in which each item is unfaulted
first_is : {X : Type 0} (f : ℕ → X → Option DocFault) (i : ℕ) (xs : List X)
    → fault_in_reading (each_in (λ place x. unfaulted (f place x) x) i xs) ≡ first_in f i xs
first_is f i [] = refl
first_is f i (x ∷ xs) = at_front (f i x) (each_in (λ place x. unfaulted (f place x) x) (i + 1) xs) (first_in f (i + 1) xs) (first_is f (i + 1) xs)
  where
    at_front : (front : Option DocFault) (rest : Result (List _) DocFault) (later : Option DocFault) → fault_in_reading rest ≡ later
        → fault_in_reading (and_then (unfaulted front x) (λ y. and_then rest (λ ys. Ok (y ∷ ys)))) ≡ or_else front later
    at_front None (Ok ys) later same = same
    at_front None (Err fault) later same = same
    at_front (Some fault) rest later same = refl

-- what a reading tells, its fault tells
fault_tells : {A B : Type 0} (Clear : Type 0) (IsFirst : DocFault → Type 0) (reading : Result A DocFault) (fault : Option DocFault) (y : B)
    → fault_in_reading reading ≡ fault → Tells Clear IsFirst reading → Tells Clear IsFirst (unfaulted fault y)
fault_tells Clear IsFirst (Ok value) fault y same tells = subst (λ fault. Tells Clear IsFirst (unfaulted fault y)) same tells
fault_tells Clear IsFirst (Err given) fault y same tells = subst (λ fault. Tells Clear IsFirst (unfaulted fault y)) same tells

-- the first fault in a list
pub first_tells : {X B : Type 0} (f : ℕ → X → Option DocFault) (Clear : ℕ → Type 0) (IsFirst : ℕ → DocFault → Type 0) (xs : List X) (y : B)
    → ((place : ℕ) (x : X) → slice_get xs place ≡ Some x → Tells (Clear place) (IsFirst place) (unfaulted (f place x) x))
    → ((place : ℕ) → slice_get xs place ≡ None → Clear place)
    → Tells ((place : ℕ) → Clear place) (AtFirst Clear IsFirst) (unfaulted (first_in f 0 xs) y)
first_tells f Clear IsFirst xs y entries past =
    fault_tells ((place : ℕ) → Clear place) (AtFirst Clear IsFirst) (each_in (λ place x. unfaulted (f place x) x) 0 xs) (first_in f 0 xs) y (first_is f 0 xs)
    (each_tells (λ place x. unfaulted (f place x) x) Clear IsFirst 0 xs (λ place x found. rw (zero-add place) (entries place x found)) past)
