-- Homomorphisms of instances: natural maps that keep each atom.
use Rattle.std.specs.Prelude.{◌≡◌, ℕ, List, Some, slice_get}
use Rattle.rw_schema.specs.declared.atom.Atom.{Atom}
use Rattle.rw_schema.specs.declared.signature.AttrEnds.{AttrEnds}
use Rattle.rw_schema.specs.RowLists.{list_at}
use Rattle.rw_schema.specs.Signature.{Signature}
use Rattle.rw_spec.specs.Instance.{Instance, Has, look}
use Rattle.rw_spec.specs.Natural.{Map, IsNatural}

-- f is natural, and each atom is the same atom at the image; a blank cell goes to anything
pub record IsHomomorphism (C : Signature) (X Y : Instance) (f : Map) : Type 0 where
  pub natural : IsNatural C X Y f
  pub keeps : (c : ℕ) (ends : AttrEnds) (x : ℕ) (atom : Atom) → slice_get C.attributes c ≡ Some ends → Has X ends.object.0 x
      → X.cell c x ≡ Some atom → Y.cell c (f ends.object.0 x) ≡ Some atom

-- g after f: first f, then g
abbrev pub after : Map → Map → Map
after g f object x = g object (f object x)

-- the map that lists of images stand for: of each object one image beside each name
abbrev pub map_of : Instance → List (List ℕ) → Map
map_of X images object x = look 0 (X.names object) (list_at images object) x
