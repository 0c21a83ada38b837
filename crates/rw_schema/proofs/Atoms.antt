-- The comparison of cells decides whether they are equal.
use Rattle.std.proofs.Common.{◌≡◌, Bool, List, Option, Some, None, refl, ap}
use Rattle.std.specs.Bool.{Decides}
use Rattle.std.specs.Cmp.{booleans_Decides}
use Rattle.std.specs.Cmp.Lexicographic.{pointwise}
use Rattle.std.specs.Option.{option_eq}
use Rattle.std.proofs.lemmas.Bool.Decides.{Decides-int_eq}
use Rattle.std.proofs.lemmas.Slice.Eq.{slice_eq-Decides, bytes_eq-Decides}
use Rattle.rw_schema.specs.declared.atom.Atom.{Atom}
use Rattle.rw_schema.specs.declared.atom.Atom.TheVariants.{Int, Text, Bool as Truth}
use Rattle.rw_schema.specs.contracts.atom.AtomPartialEq.TheImpl.{eq-value}

-- the comparison of atoms
abbrev pub is_same_atom : Atom → Atom → Bool
is_same_atom = eq-value.it

-- the comparison of atoms decides whether they are equal
pub atoms_decide : (left right : Atom) → Decides (is_same_atom left right) (left ≡ right)
atoms_decide (Int x) (Int y) = let parts = Decides-int_eq x y in (λ yes. ap Int (parts.0 yes), λ same. parts.1 cc)
atoms_decide (Int x) (Text y) = (λ yes. cc, λ same. cc)
atoms_decide (Int x) (Truth y) = (λ yes. cc, λ same. cc)
atoms_decide (Text x) (Int y) = (λ yes. cc, λ same. cc)
atoms_decide (Text x) (Text y) = let parts = bytes_eq-Decides x y in (λ yes. ap Text (parts.0 yes), λ same. parts.1 cc)
atoms_decide (Text x) (Truth y) = (λ yes. cc, λ same. cc)
atoms_decide (Truth x) (Int y) = (λ yes. cc, λ same. cc)
atoms_decide (Truth x) (Text y) = (λ yes. cc, λ same. cc)
atoms_decide (Truth x) (Truth y) = let parts = booleans_Decides x y in (λ yes. ap Truth (parts.0 yes), λ same. parts.1 cc)

-- the comparison of cells decides whether they are equal
pub cell_decides : (left right : Option Atom) → Decides (option_eq is_same_atom left right) (left ≡ right)
cell_decides None None = (λ yes. refl, λ same. refl)
cell_decides None (Some y) = (λ yes. cc, λ same. cc)
cell_decides (Some x) None = (λ yes. cc, λ same. cc)
cell_decides (Some x) (Some y) = let parts = atoms_decide x y in (λ yes. ap (λ atom. Some atom) (parts.0 yes), λ same. parts.1 cc)

-- the comparison of lists of cells, head by head
abbrev pub is_same_cells : List (Option Atom) → List (Option Atom) → Bool
is_same_cells = pointwise (option_eq is_same_atom)

-- it decides whether the lists are equal
pub cells_decide : (left right : List (Option Atom)) → Decides (is_same_cells left right) (left ≡ right)
cells_decide left right = slice_eq-Decides cell_decides left right (is_same_cells left right) refl
