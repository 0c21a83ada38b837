-- Instances of a schema as the field has them: a set of names for each object, a function for each arrow, a cell
-- for each name of an attribute's object.
use Rattle.std.specs.Prelude.{◌≡◌, ◌==◌, ℕ, Bool, cond, List, [], ◌∷◌, map, Option, Some, None, Contains, slice_get}
use Rattle.std.specs.List.{range_with_len}
use Rattle.rw_schema.specs.declared.atom.Atom.{Atom}
use Rattle.rw_schema.specs.declared.ids.ArrowId.{ArrowId}
use Rattle.rw_schema.specs.declared.parts.Equation.{Equation}
use Rattle.rw_schema.specs.declared.signature.ArrowEnds.{ArrowEnds}
use Rattle.rw_schema.specs.declared.signature.AttrEnds.{AttrEnds}
use Rattle.rw_schema.specs.Atoms.{kind_of}
use Rattle.rw_schema.specs.First.{map_in}
use Rattle.rw_schema.specs.RowLists.{RowLists, list_at}
use Rattle.rw_schema.specs.Signature.{Signature, source_of, holder_of}

-- what stands at a number that is no name says nothing
pub record Instance : Type 0 where
  -- of an object, its names
  pub names : ℕ → List ℕ
  -- of an arrow, at a name of its source
  pub value : ℕ → ℕ → ℕ
  -- of an attribute, at a name of its object: an atom, or none where the cell is blank
  pub cell : ℕ → ℕ → Option Atom

-- x is a name of the object
abbrev pub Has : Instance → ℕ → ℕ → Type 0
Has X object x = Contains (X.names object) x

-- where a path leads from a name
abbrev pub follow : Instance → List ArrowId → ℕ → ℕ
follow X [] x = x
follow X (arrow ∷ path) x = follow X path (X.value arrow.0 x)

-- both sides of the equation lead from the name to one name
abbrev pub agrees_at : Instance → Equation → ℕ → Bool
agrees_at X equation name = follow X equation.left name == follow X equation.right name

-- each arrow is a function from the names of its source to those of its target, each atom is of its attribute's
-- kind, and the two sides of each equation lead from each name to one name
pub record IsInstance (C : Signature) (X : Instance) : Type 0 where
  pub values : (a : ℕ) (ends : ArrowEnds) (x : ℕ) → slice_get C.arrows a ≡ Some ends → Has X ends.source.0 x
      → Has X ends.target.0 (X.value a x)
  pub atoms : (c : ℕ) (ends : AttrEnds) (x : ℕ) (atom : Atom) → slice_get C.attributes c ≡ Some ends → Has X ends.object.0 x
      → X.cell c x ≡ Some atom → kind_of atom ≡ ends.kind
  pub equations : (e : ℕ) (equation : Equation) (x : ℕ) → slice_get C.equations e ≡ Some equation → Has X equation.object.0 x
      → follow X equation.left x ≡ follow X equation.right x

-- the entry beside a name, or the one given where the name is not there
abbrev pub look : {A : Type 0} → A → List ℕ → List A → ℕ → A
look none [] entries x = none
look none (name ∷ names) [] x = none
look none (name ∷ names) (entry ∷ entries) x = cond (name == x) entry (look none names entries x)

-- the instance that lists stand for
abbrev pub instance_of : Signature → RowLists → Instance
instance_of C rows = record {
  names = λ object. list_at rows.names object;
  value = λ a x. look 0 (list_at rows.names (source_of C a)) (list_at rows.arrows a) x;
  cell = λ c x. look None (list_at rows.names (holder_of C c)) (list_at rows.cells c) x;
}

-- the lists that an instance is kept in, with the next names
abbrev pub lists_of : Signature → Instance → List ℕ → RowLists
lists_of C X next = record {
  names = map X.names (range_with_len 0 C.objects);
  arrows = map_in (λ a ends. map (X.value a) (X.names ends.source.0)) 0 C.arrows;
  cells = map_in (λ c ends. map (X.cell c) (X.names ends.object.0)) 0 C.attributes;
  next = next;
}
