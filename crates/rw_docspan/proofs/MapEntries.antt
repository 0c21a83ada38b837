-- A map of a piece tells its least code.
use Rattle.std.proofs.Common.{◌≡◌, ◌≢◌, ◌∙◌, ◌<◌, ◌+◌, ◌&&◌, ◌==◌, ℕ, Bool, true, false, nat_lt, Option, Some, None, List, length, option_map, refl, sym, ap, subst, zero-add, arith}
use Rattle.std.specs.List.{list_any, range_with_len}
use Rattle.std.proofs.lemmas.Bool.{and_parts, eqb-true, lt-ltb}
use Rattle.std.proofs.lemmas.Option.{same_Some}
use Rattle.serde_json.specs.Data.{Data}
use Rattle.rw_schema.specs.declared.atom.Atom.{Atom}
use Rattle.rw_schema.specs.First.{first_in, fault_unless, or_else}
use Rattle.rw_schema.specs.RowLists.{list_at}
use Rattle.rw_schema.specs.Signature.{Signature}
use Rattle.rw_schema.proofs.Firsts.{none_at, passed_unless}
use Rattle.rw_spec.specs.Homomorphism.{map_of}
use Rattle.rw_spec.specs.Instance.{Instance}
use Rattle.rw_spec.specs.Tabled.{instance_of_table}
use Rattle.rw_map.specs.declared.fault.HomFault.{HomFault}
use Rattle.rw_map.specs.declared.fault.HomFault.TheVariants as faults
use Rattle.rw_map.specs.HomFaults as homs
use Rattle.rw_map.proofs.Atoms.{atom_kept, kept_from}
use Rattle.rw_map.proofs.Objects.{object_none}
use Rattle.rw_doc.specs.declared.fault.DocFault.{DocFault}
use Rattle.rw_doc.specs.declared.piece.Piece.{Piece}
use Rattle.rw_doc.specs.Chain.{unfaulted}
use Rattle.rw_doc.specs.Numbers.{as_number_lists}
use Rattle.rw_doc.specs.Pieces.{fault_in}
use Rattle.rw_doc.proofs.FirstEntries.{TellsCode, IsBeyond, or_code, only_code, tells_checked, tells_some, tells_other, least_here}
use Rattle.rw_doc.proofs.InstanceEntries.{other_length, range_at}
use Rattle.rw_doc.proofs.Written.{never_both}
use Rattle.rw_docspan.specs.Maps as spec
use Rattle.rw_docspan.specs.PieceEntries.{AreImagesWith, HasOtherShape, StraysFrom, IsNotNatural, LosesAtom, MapHas, MapsTellLeast}
use Rattle.rw_docspan.proofs.Failing.{fault_there, fault_of_test, number_there, number_found}
use Rattle.rw_docspan.proofs.PieceEntries.{told_in_piece}

-- of what is written a property holds where it is written that it does
images_are : (value : Data) (images : List (List ℕ)) (Property : List (List ℕ) → Type 0) → as_number_lists value ≡ Some images → AreImagesWith value Property → Property images
images_are value images Property written holds = subst Property (same_Some holds.0 images (sym holds.1 ∙ written)) holds.2

-- a fault, told of the piece
abbrev told_of : Piece → HomFault → DocFault
told_of piece fault = fault_in piece (spec.code_of fault)

-- the first of two faults is told before the other
tells_first_of : {A : Type 0} (piece : Piece) (this : ℕ) (Holds : Type 0) (Others : ℕ → Type 0) (first second : Option HomFault) (x : A) → IsBeyond this Others
    → ((fault : HomFault) → first ≡ Some fault → (spec.code_of fault ≡ this) × Holds) → (first ≡ None → Holds → ⊥)
    → TellsCode Others (fault_in piece) (unfaulted (option_map (told_of piece) second) x)
    → TellsCode (or_code this Holds Others) (fault_in piece) (unfaulted (option_map (told_of piece) (or_else first second)) x)
tells_first_of piece this Holds Others None second x beyond fails passes rest =
    tells_other this Holds Others (fault_in piece) (unfaulted (option_map (told_of piece) second) x) (passes refl) rest
tells_first_of piece this Holds Others (Some fault) second x beyond fails passes rest =
    let here = fails fault refl in (this, ap (fault_in piece) here.0, least_here this Holds Others beyond here.1)

-- the last fault
tells_last : {A : Type 0} (piece : Piece) (this : ℕ) (Holds : Type 0) (last : Option HomFault) (x : A)
    → ((fault : HomFault) → last ≡ Some fault → (spec.code_of fault ≡ this) × Holds) → (last ≡ None → Holds → ⊥)
    → TellsCode (only_code this Holds) (fault_in piece) (unfaulted (option_map (told_of piece) last) x)
tells_last piece this Holds None x fails passes = λ code has. passes refl has.1
tells_last piece this Holds (Some fault) x fails passes =
    let here = fails fault refl in
    (this, ap (fault_in piece) here.0, record { stands = (refl, here.1); least = λ code less has. let same : code ≡ this = has.0 in omega arith })

-- ---- the shape

-- where both tests fail together and the first passes, the second fails
second_fails : (first second : Bool) → first ≡ true → (first && second) ≡ false → second ≡ false
second_fails true second passes fails = fails
second_fails false second passes fails = cc

-- a fault of the shape is a list of another length
shape_fails : (C : Signature) (X : Instance) (images : List (List ℕ)) → length images ≡ C.objects → (fault : HomFault) → homs.shape_fault C X images ≡ Some fault
    → (spec.code_of fault ≡ 2) × HasOtherShape C X images
shape_fails C X images long fault is =
    let f = λ (place : ℕ) (object : ℕ). fault_unless (homs.has_images X images object) (faults.Shape (record { 0 = object })) in
    let found = fault_there f 0 (range_with_len 0 C.objects) fault is in
    let object = found.1 in
    let within : object < C.objects = (let at = range_at 0 C.objects found.0 object found.2 in let same = at.0 in let less = at.1 in omega arith) in
    let test = fault_of_test (homs.has_images X images object) (faults.Shape (record { 0 = object })) fault found.3 in
    let there : nat_lt object (length images) ≡ true = lt-ltb object (length images) (subst (λ (n : ℕ). object < n) (sym long) within) in
    let other : (length (list_at images object) == length (X.names object)) ≡ false =
    second_fails (nat_lt object (length images)) (length (list_at images object) == length (X.names object)) there test.0 in
    (ap spec.code_of (sym test.1), (object, within, other_length (length (list_at images object)) (length (X.names object)) other))

-- without one, no list has another length
shape_holds : (C : Signature) (X : Instance) (images : List (List ℕ)) → homs.shape_fault C X images ≡ None → HasOtherShape C X images → ⊥
shape_holds C X images none other =
    let f = λ (place : ℕ) (object : ℕ). fault_unless (homs.has_images X images object) (faults.Shape (record { 0 = object })) in
    let at = object_none f C.objects other.0 none other.1 in
    let passes = passed_unless (homs.has_images X images other.0) (faults.Shape (record { 0 = other.0 })) at in
    let both = and_parts (nat_lt other.0 (length images)) (length (list_at images other.0) == length (X.names other.0)) passes in
    other.2 (eqb-true (length (list_at images other.0)) (length (X.names other.0)) both.1)

-- ---- the images

-- a fault of the images is one that is not there
images_fail : (C : Signature) (Y : Instance) (images : List (List ℕ)) (fault : HomFault) → homs.image_fault C Y images ≡ Some fault
    → (spec.code_of fault ≡ 8) × StraysFrom C Y images
images_fail C Y images fault is =
    let found = fault_there (λ (place : ℕ) (object : ℕ). homs.stray_image Y images object) 0 (range_with_len 0 C.objects) fault is in
    let object = found.1 in
    let within : object < C.objects = (let at = range_at 0 C.objects found.0 object found.2 in let same = at.0 in let less = at.1 in omega arith) in
    let g = λ (position : ℕ) (image : ℕ). fault_unless (list_any (λ name. name == image) (Y.names object)) (faults.Range (record { 0 = object }) position) in
    let stray = fault_there g 0 (list_at images object) fault found.3 in
    let test = fault_of_test (list_any (λ name. name == stray.1) (Y.names object)) (faults.Range (record { 0 = object }) (0 + stray.0)) fault stray.3 in (
      ap spec.code_of (sym test.1),
      (
        object,
        stray.0,
        stray.1,
        within,
        stray.2,
        λ place there.
            let passes : list_any (λ name. name == stray.1) (Y.names object) ≡ true = number_found (Y.names object) stray.1 place there in
            let fails = test.0 in cc,
      ),
    )

-- without one, all are there
images_hold : (C : Signature) (Y : Instance) (images : List (List ℕ)) → homs.image_fault C Y images ≡ None → StraysFrom C Y images → ⊥
images_hold C Y images none stray =
    let object = stray.0 in
    let g = λ (position : ℕ) (image : ℕ). fault_unless (list_any (λ name. name == image) (Y.names object)) (faults.Range (record { 0 = object }) position) in
    let row = object_none (λ (place : ℕ) (object : ℕ). homs.stray_image Y images object) C.objects object none stray.3 in
    let at = none_at g (list_at images object) stray.1 stray.2 row stray.4 in
    let passes = passed_unless (list_any (λ name. name == stray.2) (Y.names object)) (faults.Range (record { 0 = object }) stray.1) at in
    let there = number_there (Y.names object) stray.2 passes in
    stray.5 there.0 there.1

-- ---- the arrows

-- a fault of the arrows is a part at which the map does not commute
arrows_fail : (C : Signature) (X Y : Instance) (images : List (List ℕ)) (fault : HomFault) → first_in (homs.square_fault X Y (map_of X images)) 0 C.arrows ≡ Some fault
    → (spec.code_of fault ≡ 11) × IsNotNatural C X Y images
arrows_fail C X Y images fault is =
    let f = map_of X images in
    let found = fault_there (homs.square_fault X Y f) 0 C.arrows fault is in
    let arrow = found.0 in
    let ends = found.1 in
    let g = λ (position : ℕ) (x : ℕ). fault_unless (homs.commutes_at X Y f arrow ends x) (faults.NotNatural (record { 0 = arrow }) position) in
    let part = fault_there g 0 (X.names ends.source.0) fault (rw zero-add at found.3) in
    let test = fault_of_test (homs.commutes_at X Y f arrow ends part.1) (faults.NotNatural (record { 0 = arrow }) (0 + part.0)) fault part.3 in (
      ap spec.code_of (sym test.1),
      (
        arrow,
        ends,
        part.0,
        part.1,
        found.2,
        part.2,
        other_length (f ends.target.0 (X.value arrow part.1)) (Y.value arrow (f ends.source.0 part.1)) test.0,
      ),
    )

-- without one, it commutes at each
arrows_hold : (C : Signature) (X Y : Instance) (images : List (List ℕ)) → first_in (homs.square_fault X Y (map_of X images)) 0 C.arrows ≡ None → IsNotNatural C X Y images → ⊥
arrows_hold C X Y images none other =
    let f = map_of X images in
    let arrow = other.0 in
    let ends = other.1 in
    let g = λ (position : ℕ) (x : ℕ). fault_unless (homs.commutes_at X Y f arrow ends x) (faults.NotNatural (record { 0 = arrow }) position) in
    let row = none_at (homs.square_fault X Y f) C.arrows arrow ends none other.4 in
    let at = none_at g (X.names ends.source.0) other.2 other.3 row other.5 in
    let passes = passed_unless (homs.commutes_at X Y f arrow ends other.3) (faults.NotNatural (record { 0 = arrow }) other.2) at in
    other.6 (eqb-true (f ends.target.0 (X.value arrow other.3)) (Y.value arrow (f ends.source.0 other.3)) passes)

-- ---- the atoms

-- a cell that is not kept has an atom, and its image has not the same
not_kept : (cell image : Option Atom) → homs.goes_to cell image ≡ false → (atom : Atom) × (cell ≡ Some atom) × (image ≢ Some atom)
not_kept None image fails = let never : ⊥ = cc in absurd never
not_kept (Some atom) image fails = (
  atom,
  refl,
  λ same.
      let kept : homs.goes_to (Some atom) image ≡ true = kept_from (Some atom) image (λ other is. same ∙ is) in cc,
)

-- a fault of the atoms is a part whose atom is lost
atoms_fail : (C : Signature) (X Y : Instance) (images : List (List ℕ)) (fault : HomFault) → first_in (homs.lost_cell X Y (map_of X images)) 0 C.attributes ≡ Some fault
    → (spec.code_of fault ≡ 11) × LosesAtom C X Y images
atoms_fail C X Y images fault is =
    let f = map_of X images in
    let found = fault_there (homs.lost_cell X Y f) 0 C.attributes fault is in
    let attribute = found.0 in
    let ends = found.1 in
    let g = λ (position : ℕ) (x : ℕ). fault_unless (homs.keeps_at X Y f attribute ends x) (faults.Cell (record { 0 = attribute }) position) in
    let part = fault_there g 0 (X.names ends.object.0) fault (rw zero-add at found.3) in
    let test = fault_of_test (homs.keeps_at X Y f attribute ends part.1) (faults.Cell (record { 0 = attribute }) (0 + part.0)) fault part.3 in
    let lost = not_kept (X.cell attribute part.1) (Y.cell attribute (f ends.object.0 part.1)) test.0 in
    (ap spec.code_of (sym test.1), (attribute, ends, part.0, part.1, lost.0, found.2, part.2, lost.1, lost.2))

-- without one, each is kept
atoms_hold : (C : Signature) (X Y : Instance) (images : List (List ℕ)) → first_in (homs.lost_cell X Y (map_of X images)) 0 C.attributes ≡ None → LosesAtom C X Y images → ⊥
atoms_hold C X Y images none lost =
    let f = map_of X images in
    let attribute = lost.0 in
    let ends = lost.1 in
    let g = λ (position : ℕ) (x : ℕ). fault_unless (homs.keeps_at X Y f attribute ends x) (faults.Cell (record { 0 = attribute }) position) in
    let row = none_at (homs.lost_cell X Y f) C.attributes attribute ends none lost.5 in
    let at = none_at g (X.names ends.object.0) lost.2 lost.3 row lost.6 in
    let passes = passed_unless (homs.keeps_at X Y f attribute ends lost.3) (faults.Cell (record { 0 = attribute }) lost.2) at in
    lost.8 (atom_kept (X.cell attribute lost.3) (Y.cell attribute (f ends.object.0 lost.3)) lost.4 passes lost.7)

-- ---- the whole

-- a map of a piece tells its least code
pub maps_tell : MapsTellLeast
maps_tell C piece from to value =
    let X = instance_of_table from in
    let Y = instance_of_table to in
    let at = fault_in piece in
    let lengths = AreImagesWith value (λ images. length images ≢ C.objects) in
    let shape = AreImagesWith value (HasOtherShape C X) in
    let strays = AreImagesWith value (StraysFrom C Y) in
    let squares = AreImagesWith value (IsNotNatural C X Y) in
    let atoms = AreImagesWith value (LosesAtom C X Y) in
    told_in_piece piece (MapHas C X Y value) (spec.read_map C piece from to value)
    (tells_some 2 (as_number_lists value ≡ None) (or_code 2 lengths (or_code 2 shape (or_code 8 strays (or_code 11 squares (only_code 11 atoms))))) at (as_number_lists value) _
    (λ code has. omega (arith, has)) (λ none. none) (λ images is none. never_both (as_number_lists value) images is none)
    (λ images written. tells_checked 2 lengths (or_code 2 shape (or_code 8 strays (or_code 11 squares (only_code 11 atoms)))) at (length images == C.objects) _ (λ code has. omega (arith, has))
    (λ fails. (images, written, other_length (length images) C.objects fails))
    (λ passes holds. images_are value images (λ images. length images ≢ C.objects) written holds (eqb-true (length images) C.objects passes))
    (λ passes. let long : length images ≡ C.objects = eqb-true (length images) C.objects passes in
    tells_first_of piece 2 shape (or_code 8 strays (or_code 11 squares (only_code 11 atoms))) (homs.shape_fault C X images) _ images (λ code has. omega (arith, has))
    (λ fault is. let fails = shape_fails C X images long fault is in (fails.0, (images, written, fails.1)))
    (λ none holds. shape_holds C X images none (images_are value images (HasOtherShape C X) written holds))
    (tells_first_of piece 8 strays (or_code 11 squares (only_code 11 atoms)) (homs.image_fault C Y images) _ images (λ code has. omega (arith, has))
    (λ fault is. let fails = images_fail C Y images fault is in (fails.0, (images, written, fails.1)))
    (λ none holds. images_hold C Y images none (images_are value images (StraysFrom C Y) written holds))
    (tells_first_of piece 11 squares (only_code 11 atoms) (first_in (homs.square_fault X Y (map_of X images)) 0 C.arrows) _ images (λ code has. omega (arith, has.0))
    (λ fault is. let fails = arrows_fail C X Y images fault is in (fails.0, (images, written, fails.1)))
    (λ none holds. arrows_hold C X Y images none (images_are value images (IsNotNatural C X Y) written holds))
    (tells_last piece 11 atoms (first_in (homs.lost_cell X Y (map_of X images)) 0 C.attributes) images
    (λ fault is. let fails = atoms_fail C X Y images fault is in (fails.0, (images, written, fails.1)))
    (λ none holds. atoms_hold C X Y images none (images_are value images (LosesAtom C X Y) written holds))))))))
