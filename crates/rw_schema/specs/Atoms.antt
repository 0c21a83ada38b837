-- Atoms, their kinds, and when they are the same.
use Rattle.std.specs.Prelude.{Bool, true, false, Option, Some, None, if◌then◌else◌, not}
use Rattle.std.specs.Ordering.{int_eq}
use Rattle.std.specs.Str.{bytes_eq}
use Rattle.rw_schema.specs.declared.atom.Atom.{Atom}
use Rattle.rw_schema.specs.declared.atom.Atom.TheVariants as atoms
use Rattle.rw_schema.specs.declared.atom.Kind.{Kind}
use Rattle.rw_schema.specs.declared.atom.Kind.TheVariants as kinds

abbrev pub kind_of : Atom → Kind
kind_of (atoms.Int number) = kinds.Int
kind_of (atoms.Text text) = kinds.Text
kind_of (atoms.Bool truth) = kinds.Bool

-- both are one kind
abbrev pub is_same_kind : Kind → Kind → Bool
is_same_kind kinds.Int kinds.Int = true
is_same_kind kinds.Int kinds.Text = false
is_same_kind kinds.Int kinds.Bool = false
is_same_kind kinds.Text kinds.Int = false
is_same_kind kinds.Text kinds.Text = true
is_same_kind kinds.Text kinds.Bool = false
is_same_kind kinds.Bool kinds.Int = false
is_same_kind kinds.Bool kinds.Text = false
is_same_kind kinds.Bool kinds.Bool = true

-- the atom is of the kind
abbrev pub is_of_kind : Kind → Atom → Bool
is_of_kind kind atom = is_same_kind (kind_of atom) kind

-- both are one atom
abbrev pub is_same_atom : Atom → Atom → Bool
is_same_atom (atoms.Int x) (atoms.Int y) = int_eq x y
is_same_atom (atoms.Int x) (atoms.Text y) = false
is_same_atom (atoms.Int x) (atoms.Bool y) = false
is_same_atom (atoms.Text x) (atoms.Int y) = false
is_same_atom (atoms.Text x) (atoms.Text y) = bytes_eq x y
is_same_atom (atoms.Text x) (atoms.Bool y) = false
is_same_atom (atoms.Bool x) (atoms.Int y) = false
is_same_atom (atoms.Bool x) (atoms.Text y) = false
is_same_atom (atoms.Bool x) (atoms.Bool y) = if x then y else not y

-- there are two atoms, and they are one
abbrev pub are_same_atom : Option Atom → Option Atom → Bool
are_same_atom None other = false
are_same_atom (Some x) None = false
are_same_atom (Some x) (Some y) = is_same_atom x y
