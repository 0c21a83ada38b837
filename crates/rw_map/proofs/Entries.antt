-- What stands beside the name at a place.
use Rattle.std.proofs.Common.{◌≡◌, ◌==◌, ◌∙◌, ℕ, ◌<◌, Bool, List, length, Option, Some, None, slice_get, slice_index, get_or, refl, ap}
use Rattle.rw_schema.specs.declared.atom.Atom.{Atom}
use Rattle.rw_schema.specs.declared.signature.ArrowEnds.{ArrowEnds}
use Rattle.rw_schema.specs.declared.signature.AttrEnds.{AttrEnds}
use Rattle.rw_schema.specs.RowLists.{RowLists, list_at}
use Rattle.rw_schema.specs.Signature.{Signature}
use Rattle.rw_spec.specs.Distinct.{AreDistinct}
use Rattle.rw_spec.specs.Homomorphism.{map_of}
use Rattle.rw_spec.specs.Instance.{Instance, instance_of, look}
use Rattle.rw_spec.proofs.Look.{look_at}
use Rattle.rw_spec.proofs.Signatures.{source_is, holder_is}
use Rattle.rw_spec.specs.Natural.{Map}
use Rattle.rw_table.specs.TableFaults.{table_fault}
use Rattle.rw_map.specs.HomFaults.{commutes_at, goes_to, keeps_at}
use Rattle.rw_spec.proofs.Ascending.{ascends_distinct}
use Rattle.rw_table.proofs.Checked.{checked_known, names_ascend, row_whole, cells_whole}

-- the names of each object of a table are different
pub distinct_names : (C : Signature) (rows : RowLists) (object : ℕ) → table_fault C rows ≡ None → AreDistinct (list_at rows.names object)
distinct_names C rows object none = ascends_distinct (list_at rows.names object) (names_ascend rows object (checked_known C rows none).names)

-- the image of the name at a place is the image at the place
pub image_at : (X : Instance) (images : List (List ℕ)) (object k : ℕ) → AreDistinct (X.names object) → k < length (X.names object)
    → map_of X images object (slice_index (X.names object) k) ≡ slice_index (list_at images object) k
image_at X images object k distinct within = look_at 0 (X.names object) (list_at images object) k distinct within

-- the value at the name at a place is the value at the place
pub value_at : (C : Signature) (rows : RowLists) (a k : ℕ) (ends : ArrowEnds) → AreDistinct (list_at rows.names ends.source.0) → slice_get C.arrows a ≡ Some ends
    → k < length (list_at rows.names ends.source.0) → (instance_of C rows).value a (slice_index (list_at rows.names ends.source.0) k) ≡ slice_index (list_at rows.arrows a) k
value_at C rows a k ends distinct there within =
    let names = list_at rows.names ends.source.0 in
    let row = list_at rows.arrows a in
    ap (λ (source : ℕ). look 0 (list_at rows.names source) row (slice_index names k)) (source_is C a ends there) ∙ look_at 0 names row k distinct within

-- the cell at the name at a place is the cell at the place
pub cell_at : (C : Signature) (rows : RowLists) (c k : ℕ) (ends : AttrEnds) → AreDistinct (list_at rows.names ends.object.0) → slice_get C.attributes c ≡ Some ends
    → k < length (list_at rows.names ends.object.0) → (instance_of C rows).cell c (slice_index (list_at rows.names ends.object.0) k) ≡ get_or (list_at rows.cells c) k None
cell_at C rows c k ends distinct there within =
    let names = list_at rows.names ends.object.0 in
    let cells = list_at rows.cells c in
    ap (λ (object : ℕ). look None (list_at rows.names object) cells (slice_index names k)) (holder_is C c ends there) ∙ look_at None names cells k distinct within

-- the row of an arrow has an image for each name of its source
pub row_long : (C : Signature) (rows : RowLists) (a : ℕ) (ends : ArrowEnds) → table_fault C rows ≡ None → slice_get C.arrows a ≡ Some ends
    → length (list_at rows.arrows a) ≡ length (list_at rows.names ends.source.0)
row_long C rows a ends none there = row_whole C rows a ends (checked_known C rows none).shape there

-- there is a cell of an attribute for each name of its object
pub cells_long : (C : Signature) (rows : RowLists) (c : ℕ) (ends : AttrEnds) → table_fault C rows ≡ None → slice_get C.attributes c ≡ Some ends
    → length (list_at rows.cells c) ≡ length (list_at rows.names ends.object.0)
cells_long C rows c ends none there = cells_whole C rows c ends (checked_known C rows none).shape there

-- a square, by its corners
pub square_is : (X Y : Instance) (f : Map) (a : ℕ) (ends : ArrowEnds) (x value image left right : ℕ) → X.value a x ≡ value → f ends.source.0 x ≡ image
    → left ≡ f ends.target.0 value → right ≡ Y.value a image → (left == right) ≡ commutes_at X Y f a ends x
square_is X Y f a ends x value image left right value_is image_is left_is right_is = rw (value_is, image_is, ← left_is, ← right_is) refl

-- whether a cell is kept, by the cell and what is at the image
pub kept_is : (X Y : Instance) (f : Map) (c : ℕ) (ends : AttrEnds) (x image : ℕ) (cell found : Option Atom) (answer : Bool) → X.cell c x ≡ cell → f ends.object.0 x ≡ image
    → found ≡ Y.cell c image → answer ≡ goes_to cell found → answer ≡ keeps_at X Y f c ends x
kept_is X Y f c ends x image cell found answer cell_is image_is found_is is = is ∙ rw (cell_is, image_is, ← found_is) refl
