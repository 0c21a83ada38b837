-- Atoms that are the same by their test.
use Rattle.std.proofs.Common.{◌≡◌, true, false, Option, Some, None, refl, ap, sym}
use Rattle.std.proofs.lemmas.Bool.Decides.{Decides-int_eq}
use Rattle.std.proofs.lemmas.Slice.Eq.{bytes_eq-Decides}
use Rattle.rw_schema.specs.declared.atom.Atom.{Atom}
use Rattle.rw_schema.specs.declared.atom.Atom.TheVariants.{Int, Text, Bool as Truth}
use Rattle.rw_schema.specs.Atoms.{is_same_atom, are_same_atom}

-- atoms that pass the test are one
pub one_atom : (x y : Atom) → is_same_atom x y ≡ true → x ≡ y
one_atom (Int x) (Int y) same = ap Int ((Decides-int_eq x y).0 same)
one_atom (Int x) (Text y) same = cc
one_atom (Int x) (Truth y) same = cc
one_atom (Text x) (Int y) same = cc
one_atom (Text x) (Text y) same = ap Text ((bytes_eq-Decides x y).0 same)
one_atom (Text x) (Truth y) same = cc
one_atom (Truth x) (Int y) same = cc
one_atom (Truth x) (Text y) same = cc
one_atom (Truth true) (Truth true) same = refl
one_atom (Truth true) (Truth false) same = cc
one_atom (Truth false) (Truth true) same = cc
one_atom (Truth false) (Truth false) same = refl

-- an atom is the same as itself
pub same_as_itself : (x : Atom) → is_same_atom x x ≡ true
same_as_itself (Int x) = (Decides-int_eq x x).1 refl
same_as_itself (Text x) = (bytes_eq-Decides x x).1 refl
same_as_itself (Truth true) = refl
same_as_itself (Truth false) = refl

-- where both are one atom, there is that atom
pub atom_of_both : (x y : Option Atom) → are_same_atom x y ≡ true → (atom : Atom) × (x ≡ Some atom) × (y ≡ Some atom)
atom_of_both None y same = let no : ⊥ = cc in absurd no
atom_of_both (Some x) None same = let no : ⊥ = cc in absurd no
atom_of_both (Some x) (Some y) same = (x, refl, ap (λ atom. Some atom) (sym (one_atom x y same)))

-- two answers with one atom are the same
pub same_from_atom : (x y : Option Atom) (atom : Atom) → x ≡ Some atom → y ≡ Some atom → are_same_atom x y ≡ true
same_from_atom x y atom x_is y_is = rw (x_is, y_is) (same_as_itself atom)
