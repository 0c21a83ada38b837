-- Lists of images have no fault exactly where they are a homomorphism.
use Rattle.std.proofs.Common.{◌≡◌, ◌==◌, ◌∙◌, ℕ, zero, suc, ◌<◌, ◌≤◌, Bool, nat_lt, Option, Some, None, List, Contains, length, slice_get, slice_index, refl, ap, subst, arith}
use Rattle.std.specs.List.{list_any}
use Rattle.std.proofs.lemmas.Bool.{and_parts, and_from, eqb-true, eq-eqb, ltb-true, lt-ltb}
use Rattle.std.proofs.lemmas.List.{get_or_default}
use Rattle.std.proofs.lemmas.Option.{slice_get-get_or, slice_get_within, get_or_from_slice_get}
use Rattle.rw_schema.specs.declared.atom.Atom.{Atom}
use Rattle.rw_schema.specs.declared.signature.ArrowEnds.{ArrowEnds}
use Rattle.rw_schema.specs.declared.signature.AttrEnds.{AttrEnds}
use Rattle.rw_schema.specs.First.{or_else, first_in, fault_unless}
use Rattle.rw_schema.specs.RowLists.{list_at}
use Rattle.rw_schema.specs.Signature.{Signature}
use Rattle.rw_schema.proofs.Firsts.{or_else_none, passed_unless, unless_true}
use Rattle.rw_spec.specs.Distinct.{AreDistinct}
use Rattle.rw_spec.specs.Homomorphism.{IsHomomorphism, map_of}
use Rattle.rw_spec.specs.Instance.{Instance, Has}
use Rattle.rw_spec.specs.Natural.{Map, IsNatural}
use Rattle.rw_spec.proofs.Look.{contains_found, found_contained, look_contains}
use Rattle.rw_spec.proofs.Sequences.{contains_at}
use Rattle.rw_map.specs.declared.fault.HomFault.{HomFault}
use Rattle.rw_map.specs.declared.fault.HomFault.TheVariants.{Shape, Range, NotNatural, Cell}
use Rattle.rw_map.specs.HomFaults.{has_images, shape_fault, stray_image, image_fault, commutes_at, square_fault, keeps_at, lost_cell, hom_fault}
use Rattle.rw_map.specs.Homs.{HasImages, IsHom}
use Rattle.rw_map.proofs.Atoms.{atom_kept, kept_from}
use Rattle.rw_map.proofs.Entries.{image_at}
use Rattle.rw_schema.proofs.Firsts.{none_at, none_from_each}
use Rattle.rw_map.proofs.Objects.{object_none, objects_none}

-- a name stands at a place
place_of : (names : List ℕ) (x : ℕ) → Contains names x → (k : ℕ) × (slice_get names k ≡ Some x)
place_of names x (k, within, is) = (k, slice_get-get_or names k x within ∙ ap (λ (name : ℕ). Some name) is)

-- where no object has a fault of shape, each has a list with one image for each name
object_shaped : (C : Signature) (X : Instance) (images : List (List ℕ)) (object : ℕ) → shape_fault C X images ≡ None → object < C.objects
    → (object < length images) × (length (list_at images object) ≡ length (X.names object))
object_shaped C X images object none known =
    let fault : ℕ → ℕ → Option HomFault = λ place object. fault_unless (has_images X images object) (Shape (record { 0 = object })) in
    let long : Bool = length (list_at images object) == length (X.names object) in
    let passed = and_parts (nat_lt object (length images)) long
    (passed_unless (has_images X images object) (Shape (record { 0 = object })) (object_none fault C.objects object none known)) in
    (ltb-true object (length images) passed.0, eqb-true (length (list_at images object)) (length (X.names object)) passed.1)

-- as many lists as objects, where there is one for each
lists_enough : (n m : ℕ) → ((object : ℕ) → object < n → object < m) → n ≤ m
lists_enough zero m each = omega arith
lists_enough (suc n) m each = let last : n < m = each n (omega arith) in omega arith

-- lists without a fault of shape have one image for each name
pub shape_known : (C : Signature) (X : Instance) (images : List (List ℕ)) → shape_fault C X images ≡ None → HasImages C X images
shape_known C X images none = record {
  lists = lists_enough C.objects (length images) (λ object known. (object_shaped C X images object none known).0);
  each = λ object known. (object_shaped C X images object none known).1;
}

-- each image is a name, where none is out of range
parts_known : (C : Signature) (X Y : Instance) (images : List (List ℕ)) → HasImages C X images → image_fault C Y images ≡ None
    → (object x : ℕ) → object < C.objects → Has X object x → Has Y object (map_of X images object x)
parts_known C X Y images shape none object x known has =
    let fault : ℕ → ℕ → Option HomFault = λ place object. stray_image Y images object in
    let image : ℕ = map_of X images object x in
    let stray : ℕ → ℕ → Option HomFault = λ position image. fault_unless (list_any (λ name. name == image) (Y.names object)) (Range (record { 0 = object }) position) in
    let at = place_of (list_at images object) image (look_contains 0 (X.names object) (list_at images object) x (shape.each object known) has) in
    let passed = none_at stray (list_at images object) at.0 image (object_none fault C.objects object none known) at.1 in
    contains_found (Y.names object) image (passed_unless (list_any (λ name. name == image) (Y.names object)) (Range (record { 0 = object }) at.0) passed)

-- each square commutes, where none has a fault
squares_known : (C : Signature) (X Y : Instance) (f : Map) → first_in (square_fault X Y f) 0 C.arrows ≡ None
    → (a : ℕ) (ends : ArrowEnds) (x : ℕ) → slice_get C.arrows a ≡ Some ends → Has X ends.source.0 x
    → f ends.target.0 (X.value a x) ≡ Y.value a (f ends.source.0 x)
squares_known C X Y f none a ends x there has =
    let fault : ℕ → ℕ → Option HomFault = λ position x. fault_unless (commutes_at X Y f a ends x) (NotNatural (record { 0 = a }) position) in
    let at = place_of (X.names ends.source.0) x has in
    let passed = none_at fault (X.names ends.source.0) at.0 x (none_at (square_fault X Y f) C.arrows a ends none there) at.1 in
    eqb-true (f ends.target.0 (X.value a x)) (Y.value a (f ends.source.0 x)) (passed_unless (commutes_at X Y f a ends x) (NotNatural (record { 0 = a }) at.0) passed)

-- each atom is kept, where no cell has a fault
cells_known : (C : Signature) (X Y : Instance) (f : Map) → first_in (lost_cell X Y f) 0 C.attributes ≡ None
    → (c : ℕ) (ends : AttrEnds) (x : ℕ) (atom : Atom) → slice_get C.attributes c ≡ Some ends → Has X ends.object.0 x
    → X.cell c x ≡ Some atom → Y.cell c (f ends.object.0 x) ≡ Some atom
cells_known C X Y f none c ends x atom there has is =
    let fault : ℕ → ℕ → Option HomFault = λ position x. fault_unless (keeps_at X Y f c ends x) (Cell (record { 0 = c }) position) in
    let at = place_of (X.names ends.object.0) x has in
    let passed = none_at fault (X.names ends.object.0) at.0 x (none_at (lost_cell X Y f) C.attributes c ends none there) at.1 in
    atom_kept (X.cell c x) (Y.cell c (f ends.object.0 x)) atom (passed_unless (keeps_at X Y f c ends x) (Cell (record { 0 = c }) at.0) passed) is

-- lists without a fault are a homomorphism
pub hom_from_none : (C : Signature) (X Y : Instance) (images : List (List ℕ)) → hom_fault C X Y images ≡ None → IsHom C X Y images
hom_from_none C X Y images none =
    let f : Map = map_of X images in
    let squares : Option HomFault = first_in (square_fault X Y f) 0 C.arrows in
    let cells : Option HomFault = first_in (lost_cell X Y f) 0 C.attributes in
    let first = or_else_none (shape_fault C X images) (or_else (image_fault C Y images) (or_else squares cells)) none in
    let second = or_else_none (image_fault C Y images) (or_else squares cells) first.1 in
    let third = or_else_none squares cells second.1 in
    let shaped : HasImages C X images = shape_known C X images first.0 in
    record {
      shape = shaped;
      homomorphism = record {
        natural = record { parts = parts_known C X Y images shaped second.0; commutes = squares_known C X Y f third.0 };
        keeps = cells_known C X Y f third.1;
      };
    }

-- lists with one image for each name have no fault of shape
shape_unfaulted : (C : Signature) (X : Instance) (images : List (List ℕ)) → HasImages C X images → shape_fault C X images ≡ None
shape_unfaulted C X images shape =
    let fault : ℕ → ℕ → Option HomFault = λ place object. fault_unless (has_images X images object) (Shape (record { 0 = object })) in
    objects_none fault C.objects (λ object known.
    let within : object < length images = omega (arith, shape.lists) in
    let long : Bool = length (list_at images object) == length (X.names object) in
    unless_true (has_images X images object) (Shape (record { 0 = object }))
    (and_from (nat_lt object (length images)) long (lt-ltb object (length images) within)
    (eq-eqb (length (list_at images object)) (length (X.names object)) (shape.each object known))))

-- the image at a place is that of the name there
image_from : (X : Instance) (images : List (List ℕ)) (object k image : ℕ) → AreDistinct (X.names object) → length (list_at images object) ≡ length (X.names object)
    → slice_get (list_at images object) k ≡ Some image → (x : ℕ) × Has X object x × (map_of X images object x ≡ image)
image_from X images object k image distinct long there =
    let names : List ℕ = X.names object in
    let listed : k < length (list_at images object) = slice_get_within (list_at images object) k image there in
    let within : k < length names = omega arith in
    let x : ℕ = slice_index names k in
    (x, (k, within, get_or_default names k x 0 within), image_at X images object k distinct within ∙ get_or_from_slice_get (list_at images object) k image 0 there)

-- no image is out of range, where each is a name
range_unfaulted : (C : Signature) (X Y : Instance) (images : List (List ℕ)) → ((object : ℕ) → object < C.objects → AreDistinct (X.names object)) → HasImages C X images
    → ((object x : ℕ) → object < C.objects → Has X object x → Has Y object (map_of X images object x)) → image_fault C Y images ≡ None
range_unfaulted C X Y images distinct shape parts =
    let fault : ℕ → ℕ → Option HomFault = λ place object. stray_image Y images object in
    objects_none fault C.objects (λ object known.
    let stray : ℕ → ℕ → Option HomFault = λ position image. fault_unless (list_any (λ name. name == image) (Y.names object)) (Range (record { 0 = object }) position) in
    none_from_each stray (list_at images object) (λ k image there.
    let from = image_from X images object k image (distinct object known) (shape.each object known) there in
    let named : Has Y object image = subst (λ (name : ℕ). Has Y object name) from.2 (parts object from.0 known from.1) in
    unless_true (list_any (λ name. name == image) (Y.names object)) (Range (record { 0 = object }) k) (found_contained (Y.names object) image named)))

-- no square has a fault, where each commutes
squares_unfaulted : (C : Signature) (X Y : Instance) (f : Map) → IsNatural C X Y f → first_in (square_fault X Y f) 0 C.arrows ≡ None
squares_unfaulted C X Y f natural =
    none_from_each (square_fault X Y f) C.arrows (λ a ends there.
    let fault : ℕ → ℕ → Option HomFault = λ position x. fault_unless (commutes_at X Y f a ends x) (NotNatural (record { 0 = a }) position) in
    none_from_each fault (X.names ends.source.0) (λ k x named.
    unless_true (commutes_at X Y f a ends x) (NotNatural (record { 0 = a }) k)
    (eq-eqb (f ends.target.0 (X.value a x)) (Y.value a (f ends.source.0 x)) (natural.commutes a ends x there (contains_at (X.names ends.source.0) k x named)))))

-- no cell has a fault, where each atom is kept
cells_unfaulted : (C : Signature) (X Y : Instance) (f : Map) → IsHomomorphism C X Y f → first_in (lost_cell X Y f) 0 C.attributes ≡ None
cells_unfaulted C X Y f hom =
    none_from_each (lost_cell X Y f) C.attributes (λ c ends there.
    let fault : ℕ → ℕ → Option HomFault = λ position x. fault_unless (keeps_at X Y f c ends x) (Cell (record { 0 = c }) position) in
    none_from_each fault (X.names ends.object.0) (λ k x named.
    unless_true (keeps_at X Y f c ends x) (Cell (record { 0 = c }) k)
    (kept_from (X.cell c x) (Y.cell c (f ends.object.0 x)) (λ atom is. hom.keeps c ends x atom there (contains_at (X.names ends.object.0) k x named) is))))

-- a homomorphism has no fault, where the names of each object are different
pub none_from_hom : (C : Signature) (X Y : Instance) (images : List (List ℕ)) → ((object : ℕ) → object < C.objects → AreDistinct (X.names object)) → IsHom C X Y images
    → hom_fault C X Y images ≡ None
none_from_hom C X Y images distinct is =
    let f : Map = map_of X images in
    rw (
      shape_unfaulted C X images is.shape,
      range_unfaulted C X Y images distinct is.shape is.homomorphism.natural.parts,
      squares_unfaulted C X Y f is.homomorphism.natural,
      cells_unfaulted C X Y f is.homomorphism,
    ) refl
