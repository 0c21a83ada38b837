-- Readings, piece by piece and item by item, tell the first fault.
use Rattle.std.proofs.Common.{◌≡◌, inl, inr, ◌<◌, ◌≤◌, ℕ, zero, suc, Bool, true, false, nat_le, Option, Some, None, unwrap_or, IsSomeAnd, Result, Ok, Err, List, [], ◌∷◌, ◌++◌, length, take, slice_get, refl, sym, ap, subst, arith, append_assoc, length-append}
use Rattle.std.proofs.lemmas.Bool.{cases_lt, leb-false, leb-true}
use Rattle.std.proofs.lemmas.List.{append-nil}
use Rattle.serde_json.specs.Data.{Data}
use Rattle.rw_schema.specs.declared.section.Section.{Section}
use Rattle.rw_doc.specs.declared.fault.DocFault.{DocFault}
use Rattle.rw_doc.specs.declared.piece.Piece.{Piece}
use Rattle.rw_doc.specs.Chain.{and_then, checked, each_after, some_or}
use Rattle.rw_doc.specs.Entries.{HasNone, IsLeastCode, Tells, no_code}
use Rattle.rw_doc.specs.Faults.{fault_at, fault_of}
use Rattle.rw_doc.specs.Json.{as_list}
use Rattle.rw_doc.specs.Schemas.{read_list_or_none}
use Rattle.rw_docpattern.specs.Codes.{TellsLeast, row}
use Rattle.rw_docpattern.specs.PieceCodes.{HasNoneAmong, HasNoneIn, IsFaultIn, IsFaultOfItems, ItemHas, ListHas, TellsFirstPiece, TellsList, items_written, no_piece, own_piece, piece_row}
use Rattle.rw_docpattern.proofs.Codes.{from_none, from_row, here, past_fault}

-- ---- pieces

-- no piece of the table is below this one
abbrev pub IsFromPiece : ℕ → (ℕ → ℕ → Type 0) → Type 0
IsFromPiece number Has = (piece : ℕ) → piece < number → HasNone (Has piece)

-- so is the table without pieces
pub from_no_piece : (number : ℕ) → IsFromPiece number no_piece
from_no_piece number piece less code has = has

-- so is one with a piece more
pub from_piece : (number next : ℕ) (Has : ℕ → Type 0) (Others : ℕ → ℕ → Type 0) → number ≤ next → IsFromPiece next Others → IsFromPiece number (piece_row number Has Others)
from_piece number next Has Others order others piece less code (inl has) = let same : piece ≡ number = has.0 in omega arith
from_piece number next Has Others order others piece less code (inr has) = others piece (omega arith) code has

-- a piece of an item
abbrev pub piece_at : Section → ℕ → ℕ → Piece
piece_at section place number = record { section = section; first = place; second = number }

-- a later fault, where nothing is wrong with a piece
later_fault : (section : Section) (place number : ℕ) (Has : ℕ → Type 0) (Others : ℕ → ℕ → Type 0) (fault : DocFault)
    → HasNone Has → IsFaultIn section place Others fault → IsFaultIn section place (piece_row number Has Others) fault
later_fault section place number Has Others fault none told = record {
  is_at = told.is_at;
  first = record {
    entry = record {
      stands = inr told.first.entry.stands;
      least = λ other less has. elim has [ inl here ↦ none other here.1 | inr later ↦ told.first.entry.least other less later ];
    };
    before = λ piece less code has. elim has [ inl here ↦ none code here.1 | inr later ↦ told.first.before piece less code later ];
  };
}

-- the fault of a piece, where no piece comes before it
piece_fault : (section : Section) (place number : ℕ) (Has : ℕ → Type 0) (Others : ℕ → ℕ → Type 0) (code : ℕ) → IsFromPiece (suc number) Others
    → IsLeastCode Has code → IsFaultIn section place (piece_row number Has Others) (fault_at code section place number)
piece_fault section place number Has Others code from told = record {
  is_at = refl;
  first = record {
    entry = record {
      stands = inl (refl, told.stands);
      least = λ other less has. elim has [ inl here ↦ told.least other less here.1 | inr later ↦ from number (omega arith) other later ];
    };
    before = λ piece less code has. elim has [ inl here ↦ (let same : piece ≡ number = here.0 in omega arith) | inr later ↦ from piece (omega arith) code later ];
  };
}

-- a piece is read, and then what comes after it
pub piece_then : {A B : Type 0} (section : Section) (place number : ℕ) (Has : ℕ → Type 0) (Others : ℕ → ℕ → Type 0) (first : Result A DocFault) (second : A → Result B DocFault)
    → IsFromPiece (suc number) Others → TellsLeast (piece_at section place number) Has first → ((x : A) → first ≡ Ok x → TellsFirstPiece section place Others (second x))
    → TellsFirstPiece section place (piece_row number Has Others) (and_then first second)
piece_then section place number Has Others (Err fault) second from told later =
    subst (IsFaultIn section place (piece_row number Has Others)) (sym told.place) (piece_fault section place number Has Others fault.code from told.code)
piece_then section place number Has Others (Ok x) second from none later = behind (second x) (later x refl)
  where
    behind : {B : Type 0} (reading : Result B DocFault) → TellsFirstPiece section place Others reading → TellsFirstPiece section place (piece_row number Has Others) reading
    behind (Ok y) clear = λ piece code has. elim has [ inl here ↦ none code here.1 | inr later ↦ clear piece code later ]
    behind (Err fault) told = later_fault section place number Has Others fault none told

-- the last piece
pub piece_last : {A : Type 0} (section : Section) (place number : ℕ) (Has : ℕ → Type 0) (reading : Result A DocFault)
    → TellsLeast (piece_at section place number) Has reading → TellsFirstPiece section place (piece_row number Has no_piece) reading
piece_last section place number Has (Ok x) none = λ piece code has. elim has [ inl here ↦ none code here.1 | inr later ↦ later ]
piece_last section place number Has (Err fault) told =
    subst (IsFaultIn section place (piece_row number Has no_piece)) (sym told.place)
    (piece_fault section place number Has no_piece fault.code (from_no_piece (suc number)) told.code)

-- readings within readings are readings one after the other
pub in_turn : {A B C : Type 0} (section : Section) (place : ℕ) (Has : ℕ → ℕ → Type 0) (first : Result A DocFault) (second : A → Result B DocFault) (third : B → Result C DocFault)
    → TellsFirstPiece section place Has (and_then first (λ x. and_then (second x) third)) → TellsFirstPiece section place Has (and_then (and_then first second) third)
in_turn section place Has (Ok x) second third told = told
in_turn section place Has (Err fault) second third told = told

-- ---- items

-- what follows one reading follows another
turn : {A B E : Type 0} (first : Result A E) (second other : A → Result B E) (x y : B) → and_then first second ≡ Ok x → ((w : A) → second w ≡ Ok x → other w ≡ Ok y)
    → and_then first other ≡ Ok y
turn (Ok w) second other x y read so = so w read
turn (Err fault) second other x y read so = cc

-- one item more is read behind others
after_more : {X A E : Type 0} (f : List A → X → Result A E) (start : List A) (done : List X) (before : List A) (x : X) (y : A)
    → each_after f start done ≡ Ok before → f before x ≡ Ok y → each_after f start (done ++ x ∷ []) ≡ Ok (before ++ y ∷ [])
after_more f start [] before x y read is = let same : start ≡ before = cc in rw (same, is) refl
after_more f start (z ∷ done) before x y read is =
    turn (f start z) (λ w. each_after f (start ++ w ∷ []) done) (λ w. each_after f (start ++ w ∷ []) (done ++ x ∷ [])) before (before ++ y ∷ []) read
    (λ w later. after_more f (start ++ w ∷ []) done before x y later is)

-- the item behind these
item_behind : {X : Type 0} (done : List X) (x : X) (rest : List X) → slice_get (done ++ x ∷ rest) (length done) ≡ Some x
item_behind [] x rest = refl
item_behind (y ∷ done) x rest = item_behind done x rest

-- the items before it
before_it : {X : Type 0} (done : List X) (x : X) (rest : List X) → take (length done) (done ++ x ∷ rest) ≡ done
before_it [] x rest = refl
before_it (y ∷ done) x rest = ap (λ list. y ∷ list) (before_it done x rest)

-- no item stands past the last one
item_past : {X : Type 0} (xs : List X) (place : ℕ) → length xs ≤ place → slice_get xs place ≡ None
item_past [] place past = refl
item_past (x ∷ xs) zero past = absurd (omega (arith, past))
item_past (x ∷ xs) (suc place) past = item_past xs place (omega arith)

-- what holds of nothing
of_nothing : {X : Type 0} (found : Option X) (P : X → Type 0) → found ≡ None → IsSomeAnd found P → ⊥
of_nothing None P none has = has
of_nothing (Some x) P none has = cc

-- an item is read, and then those behind it
item_then : {A B : Type 0} (section : Section) (place : ℕ) (Has : ℕ → ℕ → ℕ → Type 0) (first : Result A DocFault) (second : A → Result B DocFault)
    → ((other : ℕ) → other < place → HasNoneIn (Has other)) → TellsFirstPiece section place (Has place) first
    → ((x : A) → first ≡ Ok x → HasNoneIn (Has place) → Tells (HasNoneAmong Has) (IsFaultOfItems section Has) (second x))
    → Tells (HasNoneAmong Has) (IsFaultOfItems section Has) (and_then first second)
item_then section place Has (Ok x) second clear none later = later x refl none
item_then section place Has (Err fault) second clear told later =
    let same : fault.first ≡ place = ap (λ (fault : DocFault). fault.first) told.is_at in
    record {
      item = subst (λ (place : ℕ). IsFaultIn section place (Has place) fault) (sym same) told;
      before = λ other less. clear other (omega (arith, less, same));
    }

-- a list of items, each of which is read behind what was read of those before it
module _ {A : Type 0} (section : Section) (f : List A → Data → Result A DocFault) (Has : List Data → Data → ℕ → ℕ → Type 0)
    (tells : (done : List Data) (before : List A) (item : Data) → each_after f [] done ≡ Ok before → TellsFirstPiece section (length done) (Has done item) (f before item)) where
  -- what is told of the item that is known
  item_known : {B : Type 0} (place : ℕ) (found : Option Data) (before : List Data) (item : Data) (reading : Result B DocFault) → found ≡ Some item
      → TellsFirstPiece section place (Has before item) reading → TellsFirstPiece section place (λ piece code. IsSomeAnd found (λ item. Has before item piece code)) reading
  item_known place (Some other) before item reading is told = let same : other ≡ item = cc in subst (λ item. TellsFirstPiece section place (Has before item) reading) (sym same) told
  item_known place None before item reading is told = cc

  -- what is told of the item behind these
  item_tells : {B : Type 0} (done : List Data) (item : Data) (rest : List Data) (reading : Result B DocFault) → TellsFirstPiece section (length done) (Has done item) reading
      → TellsFirstPiece section (length done) (ItemHas Has (done ++ item ∷ rest) (length done)) reading
  item_tells done item rest reading told =
      subst (λ (before : List Data). TellsFirstPiece section (length done) (λ piece code. IsSomeAnd (slice_get (done ++ item ∷ rest) (length done)) (λ item. Has before item piece code)) reading)
      (sym (before_it done item rest)) (item_known (length done) (slice_get (done ++ item ∷ rest) (length done)) done item reading (item_behind done item rest) told)

  -- nothing is wrong before one item more
  clear_more : (done : List Data) (item : Data) (rest : List Data) → ((place : ℕ) → place < length done → HasNoneIn (ItemHas Has (done ++ item ∷ rest) place))
      → HasNoneIn (ItemHas Has (done ++ item ∷ rest) (length done)) → (place : ℕ) → place < length (done ++ item ∷ []) → HasNoneIn (ItemHas Has ((done ++ item ∷ []) ++ rest) place)
  clear_more done item rest clear none place within =
      subst (λ (all : List Data). HasNoneIn (ItemHas Has all place)) (sym (append_assoc done (item ∷ []) rest)) (elim (cases_lt place (length done)) [
        | inl less ↦ clear place less
        | inr not_less ↦ (let same : length done ≡ place = omega (arith, within, length-append done (item ∷ [])) in
            subst (λ (place : ℕ). HasNoneIn (ItemHas Has (done ++ item ∷ rest) place)) same none)
      ])

  -- the items that are left tell the first fault, where nothing is wrong with those before
  rest_tells : (done : List Data) (before : List A) (rest : List Data) → each_after f [] done ≡ Ok before
      → ((place : ℕ) → place < length done → HasNoneIn (ItemHas Has (done ++ rest) place))
      → Tells (HasNoneAmong (ItemHas Has (done ++ rest))) (IsFaultOfItems section (ItemHas Has (done ++ rest))) (each_after f before rest)
  rest_tells done before [] read clear = λ place piece code has. elim (cases_lt place (length done)) [
    | inl less ↦ clear place less piece code has
    | inr not_less ↦ (let past : length (done ++ []) ≤ place = rw append-nil (omega arith) in
        of_nothing (slice_get (done ++ []) place) (λ item. Has (take place (done ++ [])) item piece code) (item_past (done ++ []) place past) has)
  ]
  rest_tells done before (item ∷ rest) read clear =
      let Item : ℕ → ℕ → ℕ → Type 0 = ItemHas Has (done ++ item ∷ rest) in
      item_then section (length done) Item (f before item) (λ y. each_after f (before ++ y ∷ []) rest) clear
      (item_tells done item rest (f before item) (tells done before item read))
      (λ y is none.
      subst (λ (all : List Data). Tells (HasNoneAmong (ItemHas Has all)) (IsFaultOfItems section (ItemHas Has all)) (each_after f (before ++ y ∷ []) rest))
      (append_assoc done (item ∷ []) rest)
      (rest_tells (done ++ item ∷ []) (before ++ y ∷ []) rest (after_more f [] done before item y read is) (clear_more done item rest clear none)))

  -- all items tell the first fault
  pub items_tell : (items : List Data) → Tells (HasNoneAmong (ItemHas Has items)) (IsFaultOfItems section (ItemHas Has items)) (each_after f [] items)
  items_tell items = rest_tells [] [] items refl (λ place less. absurd (omega (arith, less)))

-- ---- lists

-- the fault of the list itself, or else what its items tell
behind_own : {A : Type 0} (section : Section) (Own : ℕ → Type 0) (Has : ℕ → ℕ → ℕ → Type 0) (reading : Result A DocFault) → HasNone Own
    → Tells (HasNoneAmong Has) (IsFaultOfItems section Has) reading → TellsList section Own Has reading
behind_own section Own Has (Ok x) none told = (none, told)
behind_own section Own Has (Err fault) none told = inr (none, told)

-- a list that is written, or something else
module _ {A : Type 0} (section : Section) (most : ℕ) (f : List A → Data → Result A DocFault) (Has : List Data → Data → ℕ → ℕ → Type 0)
    (items : (items : List Data) → Tells (HasNoneAmong (ItemHas Has items)) (IsFaultOfItems section (ItemHas Has items)) (each_after f [] items)) where
  -- what may be wrong with the list itself
  abbrev Own : Option (List Data) → ℕ → Type 0
  Own found = row 2 (found ≡ None) (row 4 (IsSomeAnd found (λ items. most < length items)) no_code)

  -- the items, where they are few
  few_tell : (list : List Data) (few : Bool) → nat_le (length list) most ≡ few
      → TellsList section (Own (Some list)) (ItemHas Has list) (and_then (checked (fault_of 4 section) few (Ok list)) (each_after f []))
  few_tell list true is = behind_own section (Own (Some list)) (ItemHas Has list) (each_after f [] list) (λ code has. elim has [
    | inl none ↦ (let never : Some list ≡ None = none.1 in cc)
    | inr rest ↦ elim rest [ inl many ↦ (let more : most < length list = many.1 in let few : length list ≤ most = leb-true (length list) most is in omega arith) | inr never ↦ never ]
  ]) (items list)
  few_tell list false is =
      inl (past_fault (own_piece section) 2 (Some list ≡ None) (row 4 (most < length list) no_code) (fault_of 4 section) (λ none. cc)
      (here (own_piece section) 4 4 (most < length list) no_code (omega arith) (from_none 4) (leb-false (length list) most is)))

  -- the list, where one is written
  list_tells : (found : Option (List Data)) → TellsList section (Own found) (ItemHas Has (unwrap_or found []))
      (and_then (and_then (some_or (fault_of 2 section) found) (λ items. checked (fault_of 4 section) (nat_le (length items) most) (Ok items))) (each_after f []))
  list_tells None = inl (here (own_piece section) 2 4 (None ≡ None) (row 4 ⊥ no_code) (omega arith) (from_row 4 4 ⊥ no_code (omega arith) (from_none 4)) refl)
  list_tells (Some list) = few_tell list (nat_le (length list) most) refl

  -- the list, where it may be absent
  pub any_list_tells : (value : Option Data) → TellsList section (ListHas most value) (ItemHas Has (items_written value)) (and_then (read_list_or_none section most value) (each_after f []))
  any_list_tells None = behind_own section (ListHas most None) (ItemHas Has []) (each_after f [] []) (λ code has. elim has [
    | inl never ↦ never.1
    | inr rest ↦ elim rest [ inl never ↦ never.1 | inr never ↦ never ]
  ]) (items [])
  any_list_tells (Some value) = list_tells (as_list value)
