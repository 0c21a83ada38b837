-- Two homomorphisms out of one apex, in lists, and the classes of what they join: what proofs and functions inside the crate speak of.
use Rattle.std.specs.Prelude.{◌≡◌, ◌<◌, ◌+◌, ◌^◌, ℕ, true, List, All, Some, None, map, length, take, drop, slice_get, slice_index}
use Rattle.std.specs.List.{range_with_len}
use Rattle.rw_schema.specs.declared.signature.ArrowEnds.{ArrowEnds}
use Rattle.rw_schema.specs.declared.signature.AttrEnds.{AttrEnds}
use Rattle.rw_schema.specs.First.{map_in}
use Rattle.rw_schema.specs.RowLists.{RowLists, list_at}
use Rattle.rw_schema.specs.Signature.{Signature, IsCategory}
use Rattle.rw_spec.specs.Cocone.{Frame}
use Rattle.rw_spec.specs.Homomorphism.{map_of}
use Rattle.rw_spec.specs.Instance.{instance_of}
use Rattle.rw_table.specs.TableFaults.{table_fault}
use Rattle.rw_spec.specs.Ascending.{ascends}
use Rattle.rw_map.specs.Homs.{IsHom}
use Rattle.rw_classes.specs.ClassLists.{part_count}
use Rattle.rw_classes.specs.Places.{spot, either, count_at, cell_of}
use Rattle.rw_limits.specs.Spans.{AreClassCells}

-- the frame of the lists of two instances under an apex, with the images of its parts
abbrev pub span_frame : Signature → RowLists → RowLists → RowLists → List (List ℕ) → List (List ℕ) → Frame
span_frame C apex left right f g = record {
  apex = instance_of C apex;
  left = instance_of C left;
  right = instance_of C right;
  to_left = map_of (instance_of C apex) f;
  to_right = map_of (instance_of C apex) g;
}

-- the lists are instances with two homomorphisms out of the apex, and each object's parts are few enough to number
pub record IsSpan (C : Signature) (apex left right : RowLists) (f g : List (List ℕ)) : Type 0 where
  pub category : IsCategory C
  pub apex_sound : table_fault C apex ≡ None
  pub left_sound : table_fault C left ≡ None
  pub right_sound : table_fault C right ≡ None
  pub to_left : IsHom C (instance_of C apex) (instance_of C left) f
  pub to_right : IsHom C (instance_of C apex) (instance_of C right) g
  pub few : (object : ℕ) → object < C.objects → count_at (span_frame C apex left right f g) object < 2 ^ 32

-- the place, among the names of both sides, of the image of a part of either side
abbrev pub value_place : List ℕ → List ℕ → List ℕ → List ℕ → ℕ → ℕ
value_place left_row right_row left_targets right_targets e =
    either left_row right_row (spot left_targets) (λ y. length left_targets + spot right_targets y) e

-- of each class, given by its first part, the class to which an arrow leads
abbrev pub class_row : List ℕ → List ℕ → List ℕ → List ℕ → List ℕ → List ℕ → List ℕ
class_row left_row right_row left_targets right_targets numbers firsts =
    map (λ e. slice_index numbers (value_place left_row right_row left_targets right_targets e)) firsts

-- the row of an arrow
abbrev pub class_row_at : RowLists → RowLists → List (List ℕ) → List (List ℕ) → ℕ → ArrowEnds → List ℕ
class_row_at left right numbers firsts a ends =
    class_row (list_at left.arrows a) (list_at right.arrows a) (list_at left.names ends.target.0) (list_at right.names ends.target.0)
    (list_at numbers ends.target.0) (list_at firsts ends.source.0)

-- an arrow leads from the first part of each class to a part that has a class
pub record HasClassValues (left right : RowLists) (numbers firsts : List (List ℕ)) (a : ℕ) (ends : ArrowEnds) : Type 0 where
  pub left_row : a < length left.arrows
  pub right_row : a < length right.arrows
  pub left_names : ends.target.0 < length left.names
  pub right_names : ends.target.0 < length right.names
  pub numbered : ends.target.0 < length numbers
  pub begun : ends.source.0 < length firsts
  pub left_ascend : ascends (list_at left.names ends.target.0) ≡ true
  pub right_ascend : ascends (list_at right.names ends.target.0) ≡ true
  pub few : part_count left right ends.target.0 < 2 ^ 32
  pub parts : All (λ e. e < length (list_at left.arrows a) + length (list_at right.arrows a)) (list_at firsts ends.source.0)
  pub places : All (λ e. value_place (list_at left.arrows a) (list_at right.arrows a) (list_at left.names ends.target.0) (list_at right.names ends.target.0) e < length (list_at numbers ends.target.0))
      (list_at firsts ends.source.0)

-- the classes are numbered from 0
abbrev pub class_names : List (List ℕ) → List (List ℕ)
class_names firsts = map (λ each. range_with_len 0 (length each)) firsts

-- of each object the class of each left part
abbrev pub left_classes : RowLists → List (List ℕ) → List (List ℕ)
left_classes left numbers = map_in (λ object each. take (length (list_at left.names object)) each) 0 numbers

-- of each object the class of each right part
abbrev pub right_classes : RowLists → List (List ℕ) → List (List ℕ)
right_classes left numbers = map_in (λ object each. drop (length (list_at left.names object)) each) 0 numbers

-- the lists of an instance of classes
pub record AreClassLists (C : Signature) (F : Frame) (left right : RowLists) (numbers firsts : List (List ℕ)) (rows : RowLists) : Type 0 where
  pub names : rows.names ≡ class_names firsts
  pub next : rows.next ≡ map length firsts
  pub arrows : rows.arrows ≡ map_in (class_row_at left right numbers firsts) 0 C.arrows
  pub cell_lists : length rows.cells ≡ length C.attributes
  pub cells : (c : ℕ) (ends : AttrEnds) → slice_get C.attributes c ≡ Some ends
      → AreClassCells (count_at F ends.object.0) (list_at numbers ends.object.0) (list_at firsts ends.object.0) (cell_of F ends.object.0 c) (list_at rows.cells c)
