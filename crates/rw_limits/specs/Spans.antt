-- Two homomorphisms out of one apex, in lists, and the classes of what they join.
use Rattle.std.specs.Prelude.{◌≡◌, ◌<◌, ℕ, List, Option, Some, None, length, slice_index, slice_index_or}
use Rattle.rw_schema.specs.declared.atom.Atom.{Atom}

-- each atom of a part is its class's, and each atom of a class is that of one of its parts
pub record AreClassCells (count : ℕ) (numbers firsts : List ℕ) (cell : ℕ → Option Atom) (cells : List (Option Atom)) : Type 0 where
  pub each : length cells ≡ length firsts
  pub kept : (e : ℕ) (atom : Atom) → e < count → cell e ≡ Some atom → slice_index_or cells (slice_index numbers e) None ≡ Some atom
  pub from : (w : ℕ) (atom : Atom) → w < length firsts → slice_index_or cells w None ≡ Some atom
      → (e : ℕ) × (e < count) × (slice_index numbers e ≡ w) × (cell e ≡ Some atom)
