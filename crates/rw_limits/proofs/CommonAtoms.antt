-- The atom that two cells have in common.
use Rattle.std.proofs.Common.{◌≡◌, Option, Some, None, refl, ap, sym, ◌∙◌}
use Rattle.std.proofs.lemmas.Option.{cond_some}
use Rattle.rw_schema.specs.declared.atom.Atom.{Atom}
use Rattle.rw_schema.specs.Atoms.{is_same_atom}
use Rattle.rw_schema.proofs.SameAtoms.{one_atom, same_as_itself}
use Rattle.rw_limits.specs.Pairs.{common}

-- the common atom of two cells is that of both
pub common_parts : (left right : Option Atom) (atom : Atom) → common left right ≡ Some atom → (left ≡ Some atom) × (right ≡ Some atom)
common_parts None right atom has = let none : ⊥ = cc in absurd none
common_parts (Some x) None atom has = let none : ⊥ = cc in absurd none
common_parts (Some x) (Some y) atom has =
    let parts = cond_some (is_same_atom x y) x atom has in
    (ap Some parts.1, ap Some (sym (one_atom x y parts.0) ∙ parts.1))

-- an atom that both cells have is the common one
pub common_both : (left right : Option Atom) (atom : Atom) → left ≡ Some atom → right ≡ Some atom → common left right ≡ Some atom
common_both left right atom left_has right_has = rw (left_has, right_has, same_as_itself atom) refl
