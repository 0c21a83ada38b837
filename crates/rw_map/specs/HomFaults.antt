-- The first fault of lists of images that are no homomorphism.
use Rattle.std.specs.Prelude.{◌≡◌, ◌==◌, ◌&&◌, ℕ, Bool, true, nat_lt, length, List, Option, Some, None, Result, Ok, Err}
use Rattle.std.specs.List.{list_any, range_with_len}
use Rattle.rw_schema.specs.declared.atom.Atom.{Atom}
use Rattle.rw_schema.specs.declared.signature.ArrowEnds.{ArrowEnds}
use Rattle.rw_schema.specs.declared.signature.AttrEnds.{AttrEnds}
use Rattle.rw_schema.specs.Atoms.{are_same_atom}
use Rattle.rw_schema.specs.First.{or_else, first_in, fault_unless}
use Rattle.rw_schema.specs.RowLists.{list_at}
use Rattle.rw_schema.specs.Signature.{Signature}
use Rattle.rw_spec.specs.Homomorphism.{map_of}
use Rattle.rw_spec.specs.Instance.{Instance}
use Rattle.rw_spec.specs.Natural.{Map}
use Rattle.rw_map.specs.declared.fault.HomFault.{HomFault}
use Rattle.rw_map.specs.declared.fault.HomFault.TheVariants.{Shape, Range, NotNatural, Cell}

-- there is a list for the object, with one image for each name
abbrev pub has_images : Instance → List (List ℕ) → ℕ → Bool
has_images X images object = nat_lt object (length images) && (length (list_at images object) == length (X.names object))

-- the first object without one image for each name
abbrev pub shape_fault : Signature → Instance → List (List ℕ) → Option HomFault
shape_fault C X images = first_in (λ place object. fault_unless (has_images X images object) (Shape (record { 0 = object }))) 0 (range_with_len 0 C.objects)

-- the first image of the object that is no name of Y
abbrev pub stray_image : Instance → List (List ℕ) → ℕ → Option HomFault
stray_image Y images object =
    first_in (λ position image. fault_unless (list_any (λ name. name == image) (Y.names object)) (Range (record { 0 = object }) position)) 0 (list_at images object)

-- the first object with such an image
abbrev pub image_fault : Signature → Instance → List (List ℕ) → Option HomFault
image_fault C Y images = first_in (λ place object. stray_image Y images object) 0 (range_with_len 0 C.objects)

-- f commutes with the arrow at x
abbrev pub commutes_at : Instance → Instance → Map → ℕ → ArrowEnds → ℕ → Bool
commutes_at X Y f a ends x = f ends.target.0 (X.value a x) == Y.value a (f ends.source.0 x)

-- the first part at which f does not commute with the arrow
abbrev pub square_fault : Instance → Instance → Map → ℕ → ArrowEnds → Option HomFault
square_fault X Y f a ends =
    first_in (λ position x. fault_unless (commutes_at X Y f a ends x) (NotNatural (record { 0 = a }) position)) 0 (X.names ends.source.0)

-- a blank goes to anything, and an atom to the same atom
abbrev pub goes_to : Option Atom → Option Atom → Bool
goes_to None image = true
goes_to (Some atom) image = are_same_atom (Some atom) image

-- f keeps the attribute's cell at x
abbrev pub keeps_at : Instance → Instance → Map → ℕ → AttrEnds → ℕ → Bool
keeps_at X Y f c ends x = goes_to (X.cell c x) (Y.cell c (f ends.object.0 x))

-- the first part of which f does not keep the attribute's cell
abbrev pub lost_cell : Instance → Instance → Map → ℕ → AttrEnds → Option HomFault
lost_cell X Y f c ends =
    first_in (λ position x. fault_unless (keeps_at X Y f c ends x) (Cell (record { 0 = c }) position)) 0 (X.names ends.object.0)

-- why the lists are no homomorphism from X to Y: the first condition that fails, at the least place
abbrev pub hom_fault : Signature → Instance → Instance → List (List ℕ) → Option HomFault
hom_fault C X Y images =
    or_else (shape_fault C X images)
    (or_else (image_fault C Y images)
    (or_else (first_in (square_fault X Y (map_of X images)) 0 C.arrows)
    (first_in (lost_cell X Y (map_of X images)) 0 C.attributes)))

-- what a check answers
abbrev pub ChecksHom : Signature → Instance → Instance → List (List ℕ) → Result Unit HomFault → Type 0
ChecksHom C X Y images (Ok done) = hom_fault C X Y images ≡ None
ChecksHom C X Y images (Err (Shape object)) = hom_fault C X Y images ≡ Some (Shape object)
ChecksHom C X Y images (Err (Range object position)) = hom_fault C X Y images ≡ Some (Range object position)
ChecksHom C X Y images (Err (NotNatural arrow part)) = hom_fault C X Y images ≡ Some (NotNatural arrow part)
ChecksHom C X Y images (Err (Cell attr part)) = hom_fault C X Y images ≡ Some (Cell attr part)
