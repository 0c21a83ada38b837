-- Atoms and cells as they are printed.
use Rattle.std.specs.Prelude.{Option, Some, None}
use Rattle.serde_json.specs.Data.{Data, null, boolean, number, string}
use Rattle.serde_json.specs.Find.{of_integer}
use Rattle.rw_schema.specs.declared.atom.Atom.{Atom}
use Rattle.rw_schema.specs.declared.atom.Atom.TheVariants as atoms

-- an atom, as it is read
abbrev pub atom_data : Atom → Data
atom_data (atoms.Int whole) = number (of_integer whole)
atom_data (atoms.Text text) = string text
atom_data (atoms.Bool truth) = boolean truth

-- an atom, or null where the cell is blank
abbrev pub cell_data : Option Atom → Data
cell_data None = null
cell_data (Some atom) = atom_data atom
