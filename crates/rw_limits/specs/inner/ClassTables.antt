-- The cells of the classes of all objects, and the first clash of those.
use Rattle.std.specs.Prelude.{◌≡◌, ◌<◌, ◌≤◌, ◌^◌, ℕ, List, [], All, length, map, Option, Some, None, slice_get}
use Rattle.rw_schema.specs.declared.atom.Atom.{Atom}
use Rattle.rw_schema.specs.declared.signature.ArrowEnds.{ArrowEnds}
use Rattle.rw_schema.specs.First.{map_in}
use Rattle.rw_schema.specs.RowLists.{RowLists, list_at}
use Rattle.rw_schema.specs.Signature.{Signature}
use Rattle.rw_table.specs.TableFaults.{table_fault}
use Rattle.rw_classes.specs.Clashes.{both_cells}
use Rattle.rw_classes.specs.Merging.{cell_at}
use Rattle.rw_limits.specs.inner.Spans.{class_names, class_row_at, HasClassValues}
use Rattle.rw_classes.specs.ClassLists.{number_lists, first_lists}
use Rattle.rw_classes.specs.declared.clashes.ClashAt.{ClashAt}
use Rattle.rw_classes.specs.declared.classes.Classes.{Classes}
use Rattle.rw_limits.specs.declared.colimit.GlueFault.{GlueFault}
use Rattle.rw_limits.specs.declared.colimit.GlueFault.TheVariants.{Clash, OutOfMemory}
use Rattle.rw_classes.specs.declared.merge.Merged.{Merged}
use Rattle.rw_classes.specs.declared.merge.Merged.TheVariants.{Firsts, Differ}

-- the fault that tells of the clash
abbrev pub IsFaultOf : ClashAt → (ℕ → Option Atom) → GlueFault → Type 0
IsFaultOf clash cell (Clash object part attr first second) =
    (object ≡ clash.object) × (part ≡ clash.difference.class) × (attr ≡ clash.attr)
    × (cell clash.difference.first ≡ Some first) × (cell clash.difference.second ≡ Some second)
IsFaultOf clash cell OutOfMemory = ⊥

-- the cell of a class, given by the place of its first part that has an atom
abbrev pub first_cell : List (Option Atom) → Option ℕ → Option Atom
first_cell cells None = None
first_cell cells (Some place) = cell_at cells place

-- the cells of the classes in an attribute; none where they clash
abbrev pub merged_cells : List (Option Atom) → Merged → List (Option Atom)
merged_cells cells (Firsts firsts) = map (first_cell cells) firsts.items
merged_cells cells (Differ difference) = []

-- the lists of the classes: their names are their numbers
abbrev pub class_table : Signature → RowLists → RowLists → List (List ℕ) → List (List ℕ) → List Merged → RowLists
class_table C left right numbers firsts merged = record {
  names = class_names firsts;
  arrows = map_in (class_row_at left right numbers firsts) 0 C.arrows;
  cells = map_in (λ c each. merged_cells (both_cells left right c) each) 0 merged;
  next = map length firsts;
}

-- the lists of the classes can be made, and are an instance
pub record CanAssemble (C : Signature) (left right : RowLists) (classes : List Classes) (merged : List Merged) : Type 0 where
  pub objects : length classes ≤ 64
  pub left_names : length classes ≤ length left.names
  pub few : All (λ each. length each.firsts.items < 2 ^ 32) classes
  pub counts : (object : ℕ) → object < length classes → length (list_at left.names object) ≤ length (list_at (number_lists classes) object)
  pub values : (a : ℕ) (ends : ArrowEnds) → slice_get C.arrows a ≡ Some ends → HasClassValues left right (number_lists classes) (first_lists classes) a ends
  pub attributes : length merged ≤ 256
  pub left_cells : length merged ≤ length left.cells
  pub right_cells : length merged ≤ length right.cells
  pub sound : table_fault C (class_table C left right (number_lists classes) (first_lists classes) merged) ≡ None
