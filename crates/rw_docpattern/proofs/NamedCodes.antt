-- Items with names: what their own pieces tell, and the names of those before them.
use Rattle.std.proofs.Common.{◌≡◌, ◌∙◌, inl, inr, ℕ, Bool, true, false, not, Option, Some, None, option_and_then, Result, Ok, Err, List, [], ◌∷◌, ◌++◌, map, refl, sym, ap, arith, append_assoc}
use Rattle.std.specs.List.{list_any}
use Rattle.std.specs.Str.{bytes_eq}
use Rattle.std.proofs.lemmas.List.{append-nil, map-append}
use Rattle.std.proofs.lemmas.List.Folds.{Any-from_list_any, list_any-from_Any}
use Rattle.std.proofs.lemmas.Slice.Eq.{bytes_eq-Decides}
use Rattle.serde_json.specs.Data.{Data}
use Rattle.rw_doc.specs.declared.fault.DocFault.{DocFault}
use Rattle.rw_doc.specs.declared.piece.Piece.{Piece}
use Rattle.rw_doc.specs.Chain.{all_some, and_then, checked, each_after}
use Rattle.rw_doc.specs.Pieces.{fault_in}
use Rattle.rw_docpattern.specs.Codes.{TellsLeast, row}
use Rattle.rw_docpattern.specs.MapCodes.{MonicHas}
use Rattle.rw_docpattern.specs.Objects.{read_monic}
use Rattle.rw_docpattern.specs.PieceCodes.{IsNameOf, name_written}
use Rattle.rw_docpattern.proofs.Codes.{IsFrom, from_row, tells_checked}
use Rattle.rw_docpattern.proofs.MapCodes.{monic_tells}
use Rattle.rw_docpattern.proofs.Somewhere.{any_given, any_source}

-- ---- own pieces

-- what is made of what is read has the same faults
pub made_of : {A B : Type 0} (piece : Piece) (Has : ℕ → Type 0) (reading : Result A DocFault) (f : A → B) → TellsLeast piece Has reading → TellsLeast piece Has (and_then reading (λ x. Ok (f x)))
made_of piece Has (Ok x) f told = told
made_of piece Has (Err fault) f told = told

-- a test that is turned round
turned : (test : Bool) → not test ≡ false → test ≡ true
turned true fails = refl
turned false fails = cc

-- a test that fails does not pass
never_failed : (test : Bool) → not test ≡ true → test ≡ true → ⊥
never_failed true passes is = cc
never_failed false passes is = cc

-- no row of monic objects is below 5
pub from_monic : (objects names : List (List ℕ)) → IsFrom 5 (MonicHas objects names)
from_monic objects names other less (inl has) = let same : other ≡ 6 = has.0 in omega arith
from_monic objects names other less (inr has) = has

-- a piece with a name and monic objects: limits, the names that are taken, and names of objects
pub named_tells : {H : Type 0} (piece : Piece) (objects taken : List (List ℕ)) (IsTaken : List ℕ → Type 0) → ((name : List ℕ) → list_any (bytes_eq name) taken ≡ true → IsTaken name)
    → ((name : List ℕ) → IsTaken name → list_any (bytes_eq name) taken ≡ true) → (name : List ℕ) (monic : List (List ℕ)) (make : List Bool → H) (within : Bool) (IsPast : Type 0)
    → (within ≡ false → IsPast) → (within ≡ true → IsPast → ⊥) → TellsLeast piece (row 4 IsPast (row 5 (IsTaken name) (MonicHas objects monic)))
    (checked (fault_in piece 4) within (checked (fault_in piece 5) (not (list_any (bytes_eq name) taken)) (and_then (read_monic objects piece monic) (λ marks. Ok (make marks)))))
named_tells piece objects taken IsTaken is_taken was_taken name monic make within IsPast fails passes =
    let Monic : ℕ → Type 0 = MonicHas objects monic in
    let is_met : Bool = list_any (bytes_eq name) taken in
    tells_checked piece 4 5 IsPast (row 5 (IsTaken name) Monic) within _ (omega arith) (from_row 5 5 (IsTaken name) Monic (omega arith) (from_monic objects monic)) fails passes
    (λ kept. tells_checked piece 5 5 (IsTaken name) Monic (not is_met) _ (omega arith) (from_monic objects monic)
    (λ met. is_taken name (turned is_met met)) (λ new known. never_failed is_met new (was_taken name known))
    (λ new. made_of piece Monic (read_monic objects piece monic) make (monic_tells objects piece monic)))

-- ---- names

-- what two readings give one after the other
pub record AreBoth {A B E : Type 0} (first : Result A E) (second : A → Result B E) (y : B) : Type 0 where
  pub x : A
  pub is_first : first ≡ Ok x
  pub is_second : second x ≡ Ok y

-- so they give it
pub both_parts : {A B E : Type 0} (first : Result A E) (second : A → Result B E) (y : B) → and_then first second ≡ Ok y → AreBoth first second y
both_parts (Ok x) second y is = record { x = x; is_first = refl; is_second = is }
both_parts (Err fault) second y is = cc

-- what is there of two things one after the other
pub record AreThere {A B : Type 0} (first : Option A) (second : A → Option B) (y : B) : Type 0 where
  pub x : A
  pub is_first : first ≡ Some x
  pub is_second : second x ≡ Some y

-- so it is there
pub there_parts : {A B : Type 0} (first : Option A) (second : A → Option B) (y : B) → option_and_then second first ≡ Some y → AreThere first second y
there_parts (Some x) second y is = record { x = x; is_first = refl; is_second = is }
there_parts None second y is = cc

-- items that are read behind one another, each with the name that it is written with
module _ {A : Type 0} (name_of : A → List ℕ) (f : List A → Data → Result A DocFault)
    (named : (before : List A) (item : Data) (y : A) → f before item ≡ Ok y → name_written item ≡ Some (name_of y)) where
  -- the names that the items are written with are those of what is read
  record AreNamed (start : List A) (items : List Data) (found : List A) : Type 0 where
    rest : List (List ℕ)
    are : all_some name_written items ≡ Some rest
    same : map name_of found ≡ map name_of start ++ rest

  names_read : (start : List A) (items : List Data) (found : List A) → each_after f start items ≡ Ok found → AreNamed start items found
  names_read start [] found read = let same : start ≡ found = cc in record { rest = []; are = refl; same = rw (same, append-nil) refl }
  names_read start (item ∷ items) found read =
      let parts = both_parts (f start item) (λ y. each_after f (start ++ y ∷ []) items) found read in
      let later = names_read (start ++ parts.x ∷ []) items found parts.is_second in
      record {
        rest = name_of parts.x ∷ later.rest;
        are = rw (named start item parts.x parts.is_first, later.are) refl;
        same = later.same ∙ rw (map-append name_of start (parts.x ∷ []), append_assoc) refl;
      }

  -- a name of what is read is one that an item is written with
  pub was_written : (items : List Data) (found : List A) (name : List ℕ) → each_after f [] items ≡ Ok found → list_any (bytes_eq name) (map name_of found) ≡ true → IsNameOf items name
  was_written items found name read met =
      let known = names_read [] items found read in
      any_source name_written (λ item. name_written item ≡ Some name) (λ other. bytes_eq name other ≡ true) items known.rest
      (λ item other is equal. rw is (ap Some (sym ((bytes_eq-Decides name other).0 equal))))
      known.are (Any-from_list_any (bytes_eq name) known.rest (rw known.same at met))

  -- a name that an item is written with is one of what is read
  pub is_read : (items : List Data) (found : List A) (name : List ℕ) → each_after f [] items ≡ Ok found → IsNameOf items name → list_any (bytes_eq name) (map name_of found) ≡ true
  is_read items found name read written =
      let known = names_read [] items found read in
      rw known.same (list_any-from_Any (bytes_eq name) known.rest
      (any_given name_written (λ item. name_written item ≡ Some name) (λ other. bytes_eq name other ≡ true) items known.rest
      (λ item other is equal. let both : Some name ≡ Some other = sym equal ∙ is in let same : name ≡ other = cc in (bytes_eq-Decides name other).1 same) known.are written))
