-- The atoms that the parts of classes have in one attribute. A part is given by its place, and the left parts come first.
use Rattle.std.specs.Prelude.{◌≡◌, ◌≢◌, ◌<◌, ℕ, List, length, Option, Some, None, slice_index, slice_index_or}
use Rattle.rw_schema.specs.declared.atom.Atom.{Atom}
use Rattle.rw_classes.specs.declared.merge.Merged.{Merged}
use Rattle.rw_classes.specs.declared.merge.Merged.TheVariants.{Firsts, Differ}

-- the cell of the part at a place, in the list of the left cells and then the right ones
abbrev pub cell_at : List (Option Atom) → ℕ → Option Atom
cell_at cells place = slice_index_or cells place None

-- the first part of class w that has an atom stands at the place
pub record IsFirst (cells : ℕ → Option Atom) (numbers : List ℕ) (w place : ℕ) : Type 0 where
  pub class : slice_index numbers place ≡ w
  pub atom : Atom
  pub has : cells place ≡ Some atom
  pub earlier : (e : ℕ) → e < place → slice_index numbers e ≡ w → cells e ≡ None

-- of each class the place of the first of its parts below n that has an atom, or none where no part has one
pub record AreFirsts (cells : ℕ → Option Atom) (numbers : List ℕ) (n : ℕ) (firsts : List (Option ℕ)) : Type 0 where
  pub below : (w place : ℕ) → slice_index_or firsts w None ≡ Some place → place < n
  pub found : (w place : ℕ) → slice_index_or firsts w None ≡ Some place → IsFirst cells numbers w place
  pub missing : (e : ℕ) → e < n → slice_index_or firsts (slice_index numbers e) None ≡ None → cells e ≡ None

-- a is the atom of the first part of class w that has one, and b that of the first later one that differs
pub record IsClash (cells : ℕ → Option Atom) (numbers : List ℕ) (w first second : ℕ) (a b : Atom) : Type 0 where
  pub order : first < second
  pub within : second < length numbers
  pub first_class : slice_index numbers first ≡ w
  pub second_class : slice_index numbers second ≡ w
  pub first_atom : cells first ≡ Some a
  pub second_atom : cells second ≡ Some b
  pub differ : a ≢ b
  pub none_before : (e : ℕ) → e < first → slice_index numbers e ≡ w → cells e ≡ None
  pub same_between : (e : ℕ) (atom : Atom) → first < e → e < second → slice_index numbers e ≡ w → cells e ≡ Some atom → atom ≡ a

-- two atoms of one class are the same, and of each class the first part that has an atom is known
pub record AreMerged (cells : ℕ → Option Atom) (numbers : List ℕ) (classes : ℕ) (firsts : List (Option ℕ)) : Type 0 where
  pub each : length firsts ≡ classes
  pub found : AreFirsts cells numbers (length numbers) firsts
  pub same : (e other : ℕ) (a b : Atom) → e < length numbers → other < length numbers → slice_index numbers e ≡ slice_index numbers other
      → cells e ≡ Some a → cells other ≡ Some b → a ≡ b

-- the first part of each class that has an atom, where the atoms of each class are the same; else the clash of the least class
abbrev pub Merges : (ℕ → Option Atom) → List ℕ → ℕ → Merged → Type 0
Merges cells numbers classes (Firsts firsts) = AreMerged cells numbers classes firsts.items
Merges cells numbers classes (Differ difference) =
    ((a : Atom) × (b : Atom) × IsClash cells numbers difference.class difference.first difference.second a b)
    × ((w first second : ℕ) (a b : Atom) → w < difference.class → IsClash cells numbers w first second a b → ⊥)
