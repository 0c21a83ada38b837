-- The touched names of a context and the parts of a right side, in lists.
use Rattle.std.specs.Prelude.{◌≡◌, ◌<◌, ℕ, All, IsSome, cond, sum, map, position, slice_get, slice_index, List, [], Option, None, Some, length, Contains, option_and_then}
use Rattle.std.specs.List.{range_with_len}
use Rattle.rw_schema.specs.declared.atom.Atom.{Atom}
use Rattle.rw_schema.specs.declared.signature.AttrEnds.{AttrEnds}
use Rattle.rw_schema.specs.RowLists.{RowLists, list_at}
use Rattle.rw_schema.specs.Signature.{Signature, IsCategory, holder_of}
use Rattle.rw_spec.specs.Instance.{Instance, Has}
use Rattle.rw_pattern.specs.PatternLists.{PatternLists, cell_place, size_of}
use Rattle.rw_pattern.specs.declared.cell.PatternCell.{PatternCell}
use Rattle.rw_redex.specs.RuleParts.{IsOnCell}
use Rattle.rw_rule.specs.RuleLists.{RuleLists}
use Rattle.rw_rule.specs.Sets.{is_on_cell}
use Rattle.rw_rule.specs.declared.set.SetCell.{SetCell}
use Rattle.rw_columns.specs.inner.Filled.{AreAll}
use Rattle.rw_delta.specs.ContextLists.{ContextLists, is_in}
use Rattle.rw_delta.specs.Deltas.{IsListOf}

-- the names of an object that are under kept parts, whose names are these
abbrev pub IsTouched : List (List ℕ) → ℕ → List ℕ → Type 0
IsTouched images object names = IsListOf (Contains (list_at images object)) names

-- the cell that a name of the host has in the context, which is blank at the given names
abbrev pub held_cell : Instance → List ℕ → ℕ → ℕ → Option Atom
held_cell X blank c name = cond (is_in blank name) None (X.cell c name)

-- of the touched names the cells in the context
abbrev pub AreHeld : Signature → Instance → List (List ℕ) → List (List ℕ) → ℕ → List (Option Atom) → Type 0
AreHeld C X blank touched c cells = cells ≡ map (held_cell X (list_at blank c) c) (list_at touched (holder_of C c))

-- the object of an attribute, among the ends of all attributes
abbrev pub holder_at : List AttrEnds → ℕ → ℕ
holder_at attributes c = slice_index (map (λ ends. ends.object.0) attributes) c

-- the value of the set on a cell of the right side
abbrev pub set_atom : List Atom → List SetCell → ℕ → ℕ → Option Atom
set_atom values sets c part = option_and_then (slice_get values) (position (is_on_cell c part) sets)

-- of the parts of the right side the values of the sets on their cells
abbrev pub AreSet : List AttrEnds → RuleLists → List Atom → ℕ → List (Option Atom) → Type 0
AreSet attributes rule values c cells = cells ≡ map (set_atom values rule.sets c) (range_with_len 0 (size_of rule.right (holder_at attributes c)))

-- each kept part has a name, which is one of the host, and there is one list for each object and attribute
pub record CanTouch (C : Signature) (X : Instance) (rule : RuleLists) (context : ContextLists) : Type 0 where
  pub category : IsCategory C
  pub sizes : length rule.right.sizes ≡ C.objects
  pub counted : length context.of_keep ≡ C.objects
  pub kept : All (All IsSome) context.of_keep
  pub names : (object x : ℕ) → object < C.objects → Contains (list_at context.of_keep object) (Some x) → Has X object x
  pub blank : length context.blank ≡ length C.attributes

-- the touched names with their cells, the parts of the right side with theirs, and the names of the kept parts
pub record AreSides (C : Signature) (X : Instance) (rule : RuleLists) (values : List Atom) (context : ContextLists) (kept : List (List ℕ)) (left right : RowLists) : Type 0 where
  pub images : map (map (λ name. Some name)) kept ≡ context.of_keep
  pub touched : AreAll [] (IsTouched kept) C.objects left.names
  pub held : AreAll [] (AreHeld C X context.blank left.names) (length C.attributes) left.cells
  pub parts : right.names ≡ map (range_with_len 0) rule.right.sizes
  pub set : AreAll [] (AreSet C.attributes rule values) (length C.attributes) right.cells

-- the entries of a left pattern are on cells of a signature's attributes, and the tuple gives their parts names of X
pub record HasCells (C : Signature) (X : Instance) (left : PatternLists) (tuple : List ℕ) : Type 0 where
  pub cells : All (IsOnCell left) left.cells
  pub holders : length left.holders ≡ length C.attributes
  pub whole : length tuple ≡ sum left.sizes
  pub there : (entry : PatternCell) → Contains left.cells entry → Has X (holder_of C entry.attr.0) (slice_index tuple (cell_place left entry))
