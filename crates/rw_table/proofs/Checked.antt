-- What holds of lists in which no fault is.
use Rattle.std.proofs.Common.{◌≡◌, ◌==◌, ◌∙◌, ℕ, zero, suc, ◌+◌, Bool, true, nat_lt, List, [], ◌∷◌, length, Option, Some, None, slice_get, slice_index, refl, ap, subst, inl, inr, zero-add, add-zero, arith}
use Rattle.std.specs.List.{Contains, list_any, list_all}
use Rattle.std.proofs.lemmas.Bool.{and_parts, eqb-true, cases_lt}
use Rattle.std.proofs.lemmas.List.{get_or_past}
use Rattle.std.proofs.lemmas.Option.{slice_get-get_or}
use Rattle.rw_schema.specs.declared.atom.Atom.{Atom}
use Rattle.rw_schema.specs.declared.parts.Equation as equations
use Rattle.rw_schema.specs.declared.signature.ArrowEnds.{ArrowEnds}
use Rattle.rw_schema.specs.declared.signature.AttrEnds.{AttrEnds}
use Rattle.rw_schema.specs.First.{or_else, fault_unless, all_in}
use Rattle.rw_schema.specs.RowLists.{RowLists, list_at}
use Rattle.rw_schema.specs.Signature.{Signature}
use Rattle.rw_schema.proofs.Firsts.{or_else_none, passed_unless, none_at}
use Rattle.rw_spec.specs.Distinct.{AreDistinct}
use Rattle.rw_spec.specs.Instance.{Has, follow, agrees_at, instance_of}
use Rattle.rw_spec.proofs.Look.{contains_found}
use Rattle.rw_table.specs.TableFaults.{has_length, has_cells, has_shape, are_names, names_fault, row_fault, range_fault, is_cell_of, cell_fault, kind_fault, failure_of, equation_fault, table_fault}
use Rattle.rw_spec.specs.Ascending.{ascends}
use Rattle.rw_table.specs.declared.fault.TableFault.TheVariants.{Shape, Names, Range, Kind, Equation}
use Rattle.rw_spec.proofs.Ascending.{ascends_distinct}

-- what a test with places says of the item at a place
all_in_at : {X : Type 0} (test : ℕ → X → Bool) (i : ℕ) (xs : List X) → all_in test i xs ≡ true
    → (k : ℕ) (x : X) → slice_get xs k ≡ Some x → test (i + k) x ≡ true
all_in_at test i [] all k x there = cc
all_in_at test i (y ∷ xs) all zero x there =
    let same : y ≡ x = cc in
    rw (add-zero, ← same) (and_parts (test i y) (all_in test (i + 1) xs) all).0
all_in_at test i (y ∷ xs) all (suc k) x there =
    let same : (i + 1) + k ≡ i + suc k = omega arith in
    rw (← same) (all_in_at test (i + 1) xs (and_parts (test i y) (all_in test (i + 1) xs) all).1 k x there)

-- lists of the right shape
pub record AreShaped (C : Signature) (rows : RowLists) : Type 0 where
  pub names : length rows.names ≡ C.objects
  pub next : length rows.next ≡ C.objects
  pub arrows : length rows.arrows ≡ length C.arrows
  pub cells : length rows.cells ≡ length C.attributes
  pub whole : all_in (has_length rows) 0 C.arrows ≡ true
  pub whole_cells : all_in (has_cells rows) 0 C.attributes ≡ true

pub shape_known : (C : Signature) (rows : RowLists) → has_shape C rows ≡ true → AreShaped C rows
shape_known C rows shaped = grind arith

-- lists in which no fault is
pub record AreChecked (C : Signature) (rows : RowLists) : Type 0 where
  pub shape : has_shape C rows ≡ true
  pub names : names_fault rows ≡ None
  pub range : range_fault C rows ≡ None
  pub kinds : kind_fault C rows ≡ None
  pub equations : equation_fault C rows ≡ None

pub checked_known : (C : Signature) (rows : RowLists) → table_fault C rows ≡ None → AreChecked C rows
checked_known C rows none =
    let last = or_else (kind_fault C rows) (equation_fault C rows) in
    let shaped = or_else_none (fault_unless (has_shape C rows) Shape) (or_else (names_fault rows) (or_else (range_fault C rows) last)) none in
    let named = or_else_none (names_fault rows) (or_else (range_fault C rows) last) shaped.1 in
    let ranged = or_else_none (range_fault C rows) last named.1 in
    let kept = or_else_none (kind_fault C rows) (equation_fault C rows) ranged.1 in
    record { shape = passed_unless (has_shape C rows) Shape shaped.0; names = named.0; range = ranged.0; kinds = kept.0; equations = kept.1 }

-- each row has one image for each name of its arrow's source
pub row_whole : (C : Signature) (rows : RowLists) (a : ℕ) (ends : ArrowEnds) → has_shape C rows ≡ true → slice_get C.arrows a ≡ Some ends
    → length (list_at rows.arrows a) ≡ length (list_at rows.names ends.source.0)
row_whole C rows a ends shaped there =
    let whole : has_length rows a ends ≡ true = subst (λ place. has_length rows place ends ≡ true) (zero-add a) (all_in_at (has_length rows) 0 C.arrows (shape_known C rows shaped).whole a ends there) in
    eqb-true (length (list_at rows.arrows a)) (length (list_at rows.names ends.source.0)) whole

-- there is one cell for each name of an attribute's object
pub cells_whole : (C : Signature) (rows : RowLists) (c : ℕ) (ends : AttrEnds) → has_shape C rows ≡ true → slice_get C.attributes c ≡ Some ends
    → length (list_at rows.cells c) ≡ length (list_at rows.names ends.object.0)
cells_whole C rows c ends shaped there =
    let whole : has_cells rows c ends ≡ true = subst (λ place. has_cells rows place ends ≡ true) (zero-add c) (all_in_at (has_cells rows) 0 C.attributes (shape_known C rows shaped).whole_cells c ends there) in
    eqb-true (length (list_at rows.cells c)) (length (list_at rows.names ends.object.0)) whole

-- the names of each object ascend; those of a number that is no object are none
pub names_ascend : (rows : RowLists) (object : ℕ) → names_fault rows ≡ None → ascends (list_at rows.names object) ≡ true
names_ascend rows object none =
    elim (cases_lt object (length rows.names)) [
      | inl within ↦
          let there = slice_get-get_or rows.names object [] within in
          let names = list_at rows.names object in
          let next = slice_index rows.next object in
          let passed = none_at (λ each names. fault_unless (are_names (slice_index rows.next each) names) (Names (record { 0 = each }))) rows.names object names none there in
          (and_parts (ascends names) (list_all (λ name. nat_lt name next) names) (passed_unless (are_names next names) (Names (record { 0 = object })) passed)).0
      | inr past ↦ rw (get_or_past rows.names object [] past) refl
    ]

-- the names of each object are distinct
pub names_apart : (C : Signature) (rows : RowLists) (object : ℕ) → table_fault C rows ≡ None → AreDistinct (list_at rows.names object)
names_apart C rows object none = ascends_distinct (list_at rows.names object) (names_ascend rows object (checked_known C rows none).names)

-- each image is a name of the arrow's target
pub images_named : (C : Signature) (rows : RowLists) (a : ℕ) (ends : ArrowEnds) (image : ℕ) → range_fault C rows ≡ None → slice_get C.arrows a ≡ Some ends
    → Contains (list_at rows.arrows a) image → Contains (list_at rows.names ends.target.0) image
images_named C rows a ends image none there (k, within, is) =
    let names = list_at rows.names ends.target.0 in
    let row = list_at rows.arrows a in
    let row_none : row_fault rows a ends ≡ None = none_at (row_fault rows) C.arrows a ends none there in
    let found : slice_get row k ≡ Some image = slice_get-get_or row k image within ∙ ap Some is in
    let passed = none_at (λ position image. fault_unless (list_any (λ name. name == image) names) (Range (record { 0 = a }) position)) row k image row_none found in
    contains_found names image (passed_unless (list_any (λ name. name == image) names) (Range (record { 0 = a }) k) passed)

-- each cell is blank, or its atom is of the attribute's kind
pub cells_kept : (C : Signature) (rows : RowLists) (c : ℕ) (ends : AttrEnds) (cell : Option Atom) → kind_fault C rows ≡ None → slice_get C.attributes c ≡ Some ends
    → Contains (list_at rows.cells c) cell → is_cell_of ends.kind cell ≡ true
cells_kept C rows c ends cell none there (k, within, is) =
    let cells = list_at rows.cells c in
    let cells_none : cell_fault rows c ends ≡ None = none_at (cell_fault rows) C.attributes c ends none there in
    let found : slice_get cells k ≡ Some cell = slice_get-get_or cells k cell within ∙ ap Some is in
    let passed = none_at (λ position cell. fault_unless (is_cell_of ends.kind cell) (Kind (record { 0 = c }) position)) cells k cell cells_none found in
    passed_unless (is_cell_of ends.kind cell) (Kind (record { 0 = c }) k) passed

-- both sides of each equation lead from each name to one name
pub sides_agree : (C : Signature) (rows : RowLists) (e : ℕ) (equation : equations.Equation) (name : ℕ) → equation_fault C rows ≡ None → slice_get C.equations e ≡ Some equation
    → Has (instance_of C rows) equation.object.0 name → follow (instance_of C rows) equation.left name ≡ follow (instance_of C rows) equation.right name
sides_agree C rows e equation name none there (k, within, is) =
    let X = instance_of C rows in
    let names = list_at rows.names equation.object.0 in
    let holds : failure_of X e equation ≡ None = none_at (failure_of X) C.equations e equation none there in
    let found : slice_get names k ≡ Some name = slice_get-get_or names k name within ∙ ap Some is in
    let passed = none_at (λ position each. fault_unless (agrees_at X equation each) (Equation e each)) names k name holds found in
    eqb-true (follow X equation.left name) (follow X equation.right name) (passed_unless (agrees_at X equation name) (Equation e name) passed)
