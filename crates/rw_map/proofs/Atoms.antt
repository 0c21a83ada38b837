-- Atoms that are kept.
use Rattle.std.proofs.Common.{◌≡◌, true, Option, Some, None, refl}
use Rattle.rw_schema.specs.declared.atom.Atom.{Atom}
use Rattle.rw_schema.proofs.SameAtoms.{one_atom, same_as_itself}
use Rattle.rw_map.specs.HomFaults.{goes_to}

-- a cell that is kept has its atom at the image
pub atom_kept : (cell image : Option Atom) (atom : Atom) → goes_to cell image ≡ true → cell ≡ Some atom → image ≡ Some atom
atom_kept None image atom kept is = let no : ⊥ = cc in absurd no
atom_kept (Some first) None atom kept is = let no : ⊥ = cc in absurd no
atom_kept (Some first) (Some second) atom kept is =
    let same : first ≡ second = one_atom first second kept in
    cc

-- a cell whose atom, if there is one, is at the image is kept
pub kept_from : (cell image : Option Atom) → ((atom : Atom) → cell ≡ Some atom → image ≡ Some atom) → goes_to cell image ≡ true
kept_from None image each = refl
kept_from (Some atom) image each = rw (each atom refl) (same_as_itself atom)
