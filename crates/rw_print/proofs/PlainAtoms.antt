-- The values of atoms and cells have no floats.
use Rattle.std.proofs.Common.{◌≡◌, ℤ, pos, negsuc, false, Option, Some, None, refl}
use Rattle.serde_json.specs.Data.{number}
use Rattle.serde_json.specs.Find.{of_integer}
use Rattle.serde_json.specs.Written.{has_float}
use Rattle.rw_schema.specs.declared.atom.Atom.{Atom}
use Rattle.rw_schema.specs.declared.atom.Atom.TheVariants as atoms
use Rattle.rw_print.specs.Atoms.{atom_data, cell_data}

-- a whole number is no float
no_float_in_integer : (whole : ℤ) → has_float (number (of_integer whole)) ≡ false
no_float_in_integer (pos n) = refl
no_float_in_integer (negsuc n) = refl

-- an atom has no float
pub no_float_in_atom : (atom : Atom) → has_float (atom_data atom) ≡ false
no_float_in_atom (atoms.Int whole) = no_float_in_integer whole
no_float_in_atom (atoms.Text text) = refl
no_float_in_atom (atoms.Bool truth) = refl

-- a cell has no float
pub no_float_in_cell : (cell : Option Atom) → has_float (cell_data cell) ≡ false
no_float_in_cell None = refl
no_float_in_cell (Some atom) = no_float_in_atom atom
