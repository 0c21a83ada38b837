-- Readings of maps and of monic objects tell the least code of their tables.
use Rattle.std.proofs.Common.{◌≡◌, ◌≤◌, ◌<◌, ◌==◌, ◌⊎◌, inl, inr, ◌+◌, ℕ, suc, Bool, true, false, nat_lt, length, Option, Some, None, option_map, Result, Ok, Err, List, [], ◌∷◌, slice_get, refl, sym, ◌∙◌, ap, subst, arith, add-zero, zero-add}
use Rattle.std.specs.List.{Any}
use Rattle.std.proofs.lemmas.Bool.{eqb-false, eqb-true, ltb-false, ltb-true}
use Rattle.serde_json.specs.Data.{Data}
use Rattle.rw_schema.specs.declared.ids.ObjectId.{ObjectId}
use Rattle.rw_schema.specs.First.{first_in, fault_unless, or_else}
use Rattle.rw_schema.specs.RowLists.{list_at}
use Rattle.rw_schema.specs.Signature.{Signature}
use Rattle.rw_schema.proofs.Firsts.{none_at, passed_unless}
use Rattle.rw_pattern.specs.declared.map_fault.MapFault.{MapFault}
use Rattle.rw_pattern.specs.declared.map_fault.MapFault.TheVariants.{Shape, Range, NotNatural}
use Rattle.rw_pattern.specs.MapFaults.{commutes_at, has_map_shape, image_fault, map_fault, square_fault}
use Rattle.rw_pattern.specs.PatternLists.{PatternLists, size_of}
use Rattle.rw_doc.specs.declared.fault.DocFault.{DocFault}
use Rattle.rw_doc.specs.declared.piece.Piece.{Piece}
use Rattle.rw_doc.specs.Chain.{all_some, and_then, checked, some_or, unfaulted}
use Rattle.rw_doc.specs.Entries.{no_code}
use Rattle.rw_doc.specs.Numbers.{as_number_lists}
use Rattle.rw_doc.specs.Pieces.{fault_in}
use Rattle.rw_docpattern.specs.Codes.{TellsLeast, row}
use Rattle.rw_docpattern.specs.MapCodes.{BreaksSquare, FirstMapFault, FirstMonicFault, HasImageBeyond, HasOtherImages, ImagesHave, MapHas, MonicHas}
use Rattle.rw_docpattern.specs.Maps.{code_of, read_map}
use Rattle.rw_docpattern.specs.Objects.{marks_of, object_named}
use Rattle.rw_docpattern.proofs.Codes.{IsFrom, from_none, from_row, here, past, tells_none}
use Rattle.rw_docpattern.proofs.Somewhere.{any_missing, none_missing}

-- ---- the first fault of a list stands at a place

-- the fault of an item, by its place
pub record IsFoundAt {X A : Type 0} (f : ℕ → X → Option A) (i : ℕ) (xs : List X) (fault : A) : Type 0 where
  pub place : ℕ
  pub item : X
  pub there : slice_get xs place ≡ Some item
  pub is : f (i + place) item ≡ Some fault

-- the fault of the first item, or of a later one
found_cons : {X A : Type 0} (f : ℕ → X → Option A) (i : ℕ) (x : X) (xs : List X) (fault : A) (first : Option A) → f i x ≡ first
    → or_else first (first_in f (i + 1) xs) ≡ Some fault → (first_in f (i + 1) xs ≡ Some fault → IsFoundAt f (i + 1) xs fault) → IsFoundAt f i (x ∷ xs) fault
found_cons f i x xs fault (Some found) is_first is later = record {
  place = 0;
  item = x;
  there = refl;
  is = rw add-zero (let same : Some found ≡ Some fault = is in rw (is_first, same) refl);
}
found_cons f i x xs fault None is_first is later =
    let rest = later is in
    let same : (i + 1) + rest.place ≡ i + suc rest.place = omega arith in
    record {
      place = suc rest.place;
      item = rest.item;
      there = rest.there;
      is = subst (λ (place : ℕ). f place rest.item ≡ Some fault) same rest.is;
    }

-- so does each first fault
pub found_at : {X A : Type 0} (f : ℕ → X → Option A) (i : ℕ) (xs : List X) (fault : A) → first_in f i xs ≡ Some fault → IsFoundAt f i xs fault
found_at f i [] fault is = cc
found_at f i (x ∷ xs) fault is = found_cons f i x xs fault (f i x) refl is (found_at f (i + 1) xs fault)

-- the test of a fault failed, and it is the fault
pub failed_unless : {A : Type 0} (test : Bool) (fault found : A) → fault_unless test fault ≡ Some found → (test ≡ false) × (fault ≡ found)
failed_unless true fault found is = cc
failed_unless false fault found is = let same : fault ≡ found = cc in (refl, same)

-- ---- images and squares

-- the fault of an image has its code, and the image is none
image_found : (from to : PatternLists) (images : List (List ℕ)) (fault : MapFault) → first_in (image_fault to images) 0 from.sizes ≡ Some fault
    → (code_of fault ≡ 8) × HasImageBeyond from to images
image_found from to images fault is =
    let outer = found_at (image_fault to images) 0 from.sizes fault is in
    let object : ℕ = outer.place in
    let here : image_fault to images object outer.item ≡ Some fault = subst (λ (place : ℕ). image_fault to images place outer.item ≡ Some fault) (zero-add object) outer.is in
    let f : ℕ → ℕ → Option MapFault = λ part image. fault_unless (nat_lt image (size_of to object)) (Range (record { 0 = object }) part) in
    let inner = found_at f 0 (list_at images object) fault here in
    let failed = failed_unless (nat_lt inner.item (size_of to object)) (Range (record { 0 = object }) (0 + inner.place)) fault inner.is in
    (ap code_of (sym failed.1), (object, outer.item, inner.place, inner.item, outer.there, inner.there, ltb-false inner.item (size_of to object) failed.0))

-- no image is none where none has a fault
image_passes : (from to : PatternLists) (images : List (List ℕ)) → first_in (image_fault to images) 0 from.sizes ≡ None → HasImageBeyond from to images → ⊥
image_passes from to images none has =
    let object : ℕ = has.0 in
    let image : ℕ = has.3 in
    let f : ℕ → ℕ → Option MapFault = λ part image. fault_unless (nat_lt image (size_of to object)) (Range (record { 0 = object }) part) in
    let inner : first_in f 0 (list_at images object) ≡ None = none_at (image_fault to images) from.sizes object has.1 none has.4 in
    let passes : nat_lt image (size_of to object) ≡ true =
    passed_unless (nat_lt image (size_of to object)) (Range (record { 0 = object }) has.2) (none_at f (list_at images object) has.2 image inner has.5) in
    let below : image < size_of to object = ltb-true image (size_of to object) passes in
    let beyond : size_of to object ≤ image = has.6 in
    omega arith

-- the fault of a square has its code, and the map does not commute there
square_found : (C : Signature) (from to : PatternLists) (images : List (List ℕ)) (fault : MapFault) → first_in (square_fault from to images) 0 C.arrows ≡ Some fault
    → (code_of fault ≡ 11) × BreaksSquare C from to images
square_found C from to images fault is =
    let outer = found_at (square_fault from to images) 0 C.arrows fault is in
    let arrow : ℕ = outer.place in
    let here : square_fault from to images arrow outer.item ≡ Some fault =
    subst (λ (place : ℕ). square_fault from to images place outer.item ≡ Some fault) (zero-add arrow) outer.is in
    let f : ℕ → ℕ → Option MapFault = λ part value. fault_unless (commutes_at to images arrow outer.item part value) (NotNatural (record { 0 = arrow }) part) in
    let inner = found_at f 0 (list_at from.rows arrow) fault here in
    let failed = failed_unless (commutes_at to images arrow outer.item (0 + inner.place) inner.item) (NotNatural (record { 0 = arrow }) (0 + inner.place)) fault inner.is in (
      ap code_of (sym failed.1),
      (
        arrow,
        outer.item,
        inner.place,
        inner.item,
        outer.there,
        inner.there,
        subst (λ (part : ℕ). commutes_at to images arrow outer.item part inner.item ≡ false) (zero-add inner.place) failed.0,
      ),
    )

-- the map commutes everywhere where no square has a fault
square_passes : (C : Signature) (from to : PatternLists) (images : List (List ℕ)) → first_in (square_fault from to images) 0 C.arrows ≡ None → BreaksSquare C from to images → ⊥
square_passes C from to images none has =
    let arrow : ℕ = has.0 in
    let f : ℕ → ℕ → Option MapFault = λ part value. fault_unless (commutes_at to images arrow has.1 part value) (NotNatural (record { 0 = arrow }) part) in
    let inner : first_in f 0 (list_at from.rows arrow) ≡ None = none_at (square_fault from to images) C.arrows arrow has.1 none has.4 in
    let passes : commutes_at to images arrow has.1 has.2 has.3 ≡ true =
    passed_unless (commutes_at to images arrow has.1 has.2 has.3) (NotNatural (record { 0 = arrow }) has.2) (none_at f (list_at from.rows arrow) has.2 has.3 inner has.5) in
    let never : true ≡ false = sym passes ∙ has.6 in
    cc

-- ---- maps, and what is made of them

-- a test that failed did not pass
never_passed : (test : Bool) → test ≡ true → test ≡ false → ⊥
never_passed true passes fails = cc
never_passed false passes fails = cc

-- neither of two
neither : {A B : Type 0} → (A → ⊥) → (B → ⊥) → A ⊎ B → ⊥
neither one other (inl a) = one a
neither one other (inr b) = other b

-- a reading of images between two patterns, and what is made of it, whose codes are from 11 on
module _ {B : Type 0} (C : Signature) (piece : Piece) (from to : PatternLists) (Others : ℕ → Type 0) (last : List (List ℕ) → Result B DocFault) (above : IsFrom 11 Others) where
  -- what is made of the images, by their shape and by the first fault of each kind
  abbrev map_with : List (List ℕ) → Bool → Option MapFault → Option MapFault → Result B DocFault
  map_with images shape image square =
      and_then (unfaulted (option_map (λ fault. fault_in piece (code_of fault)) (or_else (fault_unless shape Shape) (or_else image square))) images) last

  -- the rows of squares, and those of images
  abbrev Squares : List (List ℕ) → ℕ → Type 0
  Squares images = row 11 (BreaksSquare C from to images) Others

  abbrev Images : List (List ℕ) → ℕ → Type 0
  Images images = row 8 (HasImageBeyond from to images) (Squares images)

  -- squares tell code 11
  squares_tell : (images : List (List ℕ)) (square : Option MapFault) → first_in (square_fault from to images) 0 C.arrows ≡ square → TellsLeast piece Others (last images)
      → TellsLeast piece (Squares images) (map_with images true None square)
  squares_tell images None is later = past piece 11 (BreaksSquare C from to images) Others (last images) (square_passes C from to images is) later
  squares_tell images (Some fault) is later =
      let found = square_found C from to images fault is in
      rw found.0 (here piece 11 11 (BreaksSquare C from to images) Others (omega arith) above found.1)

  -- no row of them is below the first
  from_squares : (images : List (List ℕ)) → IsFrom 11 (Squares images)
  from_squares images = from_row 11 11 (BreaksSquare C from to images) Others (omega arith) above

  from_images : (images : List (List ℕ)) → IsFrom 8 (Images images)
  from_images images = from_row 8 11 (HasImageBeyond from to images) (Squares images) (omega arith) (from_squares images)

  -- images tell code 8, and then squares code 11
  images_tell : (images : List (List ℕ)) (image : Option MapFault) → first_in (image_fault to images) 0 from.sizes ≡ image → TellsLeast piece Others (last images)
      → TellsLeast piece (Images images) (map_with images true image (first_in (square_fault from to images) 0 C.arrows))
  images_tell images None is later =
      past piece 8 (HasImageBeyond from to images) (Squares images) _ (image_passes from to images is)
      (squares_tell images (first_in (square_fault from to images) 0 C.arrows) refl later)
  images_tell images (Some fault) is later =
      let found = image_found from to images fault is in
      rw found.0 (here piece 8 11 (HasImageBeyond from to images) (Squares images) (omega arith) (from_squares images) found.1)

  -- the shape tells code 2
  shape_tells : (images : List (List ℕ)) (shape : Bool) → has_map_shape from images ≡ shape → length images ≡ C.objects → TellsLeast piece Others (last images)
      → TellsLeast piece (row 2 (HasOtherImages C from images) (Images images))
      (map_with images shape (first_in (image_fault to images) 0 from.sizes) (first_in (square_fault from to images) 0 C.arrows))
  shape_tells images true is long later =
      past piece 2 (HasOtherImages C from images) (Images images) _ (neither (λ other. other long) (never_passed (has_map_shape from images) is))
      (images_tell images (first_in (image_fault to images) 0 from.sizes) refl later)
  shape_tells images false is long later = here piece 2 8 (HasOtherImages C from images) (Images images) (omega arith) (from_images images) (inr is)

  -- the number of lists tells code 2
  lists_tell : (images : List (List ℕ)) (long : Bool) → (length images == C.objects) ≡ long → TellsLeast piece Others (last images)
      → TellsLeast piece (row 2 (HasOtherImages C from images) (Images images))
      (and_then (checked (fault_in piece 2) long (unfaulted (option_map (λ fault. fault_in piece (code_of fault)) (map_fault C from to images)) images)) last)
  lists_tell images true is later = shape_tells images (has_map_shape from images) refl (eqb-true (length images) C.objects is) later
  lists_tell images false is later =
      here piece 2 8 (HasOtherImages C from images) (Images images) (omega arith) (from_images images) (inl (eqb-false (length images) C.objects is))

-- lists of numbers, or something else, and what is made of them
images_then : {B : Type 0} (C : Signature) (piece : Piece) (from to : PatternLists) (Others : ℕ → Type 0) (last : List (List ℕ) → Result B DocFault) → IsFrom 11 Others
    → (found : Option (List (List ℕ))) → ((images : List (List ℕ)) → found ≡ Some images → TellsLeast piece Others (last images))
    → TellsLeast piece (ImagesHave C from to Others found)
    (and_then (and_then (some_or (fault_in piece 2) found) (λ images. checked (fault_in piece 2) (length images == C.objects)
    (unfaulted (option_map (λ fault. fault_in piece (code_of fault)) (map_fault C from to images)) images))) last)
images_then C piece from to Others last above None later =
    here piece 2 2 (None ≡ None) (row 2 ⊥ (row 8 ⊥ (row 11 ⊥ Others))) (omega arith)
    (from_row 2 8 ⊥ (row 8 ⊥ (row 11 ⊥ Others)) (omega arith) (from_row 8 11 ⊥ (row 11 ⊥ Others) (omega arith) (from_row 11 11 ⊥ Others (omega arith) above))) refl
images_then C piece from to Others last above (Some images) later =
    past piece 2 (Some images ≡ None) (row 2 (HasOtherImages C from images) (row 8 (HasImageBeyond from to images) (row 11 (BreaksSquare C from to images) Others))) _ (λ none. cc)
    (lists_tell C piece from to Others last above images (length images == C.objects) refl (later images refl))

-- a map between patterns, and what is made of it
pub map_then : {B : Type 0} (C : Signature) (piece : Piece) (from to : PatternLists) (Others : ℕ → Type 0) (last : List (List ℕ) → Result B DocFault) → IsFrom 11 Others → (value : Data)
    → ((images : List (List ℕ)) → as_number_lists value ≡ Some images → TellsLeast piece Others (last images))
    → TellsLeast piece (ImagesHave C from to Others (as_number_lists value)) (and_then (read_map C piece from to value) last)
map_then C piece from to Others last above value = images_then C piece from to Others last above (as_number_lists value)

-- nothing is made of a reading
alone : {A : Type 0} (piece : Piece) (Has : ℕ → Type 0) (reading : Result A DocFault) → TellsLeast piece Has (and_then reading (λ x. Ok x)) → TellsLeast piece Has reading
alone piece Has (Ok x) told = told
alone piece Has (Err fault) told = told

-- maps between patterns
pub map_tells : FirstMapFault
map_tells C piece from to value =
    alone piece (MapHas C from to value) (read_map C piece from to value)
    (map_then C piece from to no_code (λ images. Ok images) (from_none 11) value (λ images is. tells_none piece images))

-- ---- monic objects

-- the objects with the names, where each is there
monic_tells_of : (objects : List (List ℕ)) (piece : Piece) (names : List (List ℕ)) (found : Option (List ObjectId)) → all_some (object_named objects) names ≡ found
    → TellsLeast piece (MonicHas objects names) (some_or (fault_in piece 6) (option_map (marks_of (length objects)) found))
monic_tells_of objects piece names None is =
    here piece 6 6 (Any (λ name. object_named objects name ≡ None) names) no_code (omega arith) (from_none 6) (any_missing (object_named objects) names is)
monic_tells_of objects piece names (Some listed) is =
    past piece 6 (Any (λ name. object_named objects name ≡ None) names) no_code (Ok (marks_of (length objects) listed)) (none_missing (object_named objects) names listed is)
    (tells_none piece (marks_of (length objects) listed))

-- the objects that are listed as monic
pub monic_tells : FirstMonicFault
monic_tells objects piece names = monic_tells_of objects piece names (all_some (object_named objects) names) refl
