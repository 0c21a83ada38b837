-- The pushout in lists: the classes of the parts of both sides, numbered from 0 in the order of their first parts.
use Rattle.std.specs.Prelude.{◌≡◌, ◌<◌, ◌++◌, ℕ, List, length, None, Some, Result, Ok, Err, slice_get, slice_index}
use Rattle.std.specs.List.{range_with_len}
use Rattle.rw_schema.specs.declared.signature.AttrEnds.{AttrEnds}
use Rattle.rw_schema.specs.RowLists.{list_at}
use Rattle.rw_schema.specs.Signature.{Signature}
use Rattle.rw_spec.specs.Cocone.{Frame, IsCocone, IsInitialCocone}
use Rattle.rw_spec.specs.Homomorphism.{map_of}
use Rattle.rw_spec.specs.Instance.{Instance}
use Rattle.rw_spec.specs.Natural.{Map}
use Rattle.rw_spec.specs.Tabled.{Tabled, instance_of_table}
use Rattle.rw_table.specs.TableFaults.{table_fault}
use Rattle.rw_classes.specs.Classes.{AreClasses}
use Rattle.rw_classes.specs.FirstClash.{AreClassesOf, IsFirstClash}
use Rattle.rw_classes.specs.Places.{count_at, joined_at, cell_of}
use Rattle.rw_limits.specs.Spans.{AreClassCells}
use Rattle.rw_limits.specs.declared.colimit.PushoutResult.{PushoutResult}
use Rattle.rw_limits.specs.declared.colimit.GlueFault.{GlueFault}
use Rattle.rw_limits.specs.declared.colimit.GlueFault.TheVariants.{Clash, OutOfMemory}

-- the frame of two tables under an apex, with the images of its parts
abbrev pub frame_of : Tabled → Tabled → Tabled → List (List ℕ) → List (List ℕ) → Frame
frame_of apex left right f g = record {
  apex = instance_of_table apex;
  left = instance_of_table left;
  right = instance_of_table right;
  to_left = map_of (instance_of_table apex) f;
  to_right = map_of (instance_of_table apex) g;
}

-- at an object: one image for each part on either side; the images of all parts, left ones first, are the classes of what the
-- apex joins, numbered in the order of their first parts; the names are these numbers, and the next name is how many there
-- are; and in each attribute each atom of a part is its class's, and each atom of a class is that of one of its parts
pub record IsGluedAt (C : Signature) (F : Frame) (result : PushoutResult) (object : ℕ) : Type 0 where
  pub firsts : List ℕ
  pub left : length (list_at result.left object) ≡ length (F.left.names object)
  pub classes : AreClasses (count_at F object) (joined_at F object) (list_at result.left object ++ list_at result.right object) firsts
  pub names : list_at result.table.rows.names object ≡ range_with_len 0 (length firsts)
  pub next : slice_index result.table.rows.next object ≡ length firsts
  pub cells : (c : ℕ) (ends : AttrEnds) → slice_get C.attributes c ≡ Some ends → ends.object.0 ≡ object
      → AreClassCells (count_at F object) (list_at result.left object ++ list_at result.right object) firsts (cell_of F object c) (list_at result.table.rows.cells c)

-- a table over the schema, without a fault, and two maps, which have the universal property of a pushout and are glued so
pub record IsPushoutOf (C : Signature) (F : Frame) (result : PushoutResult) : Type 0 where
  pub signature : result.table.signature ≡ C
  pub sound : table_fault C result.table.rows ≡ None
  pub left : length result.left ≡ C.objects
  pub right : length result.right ≡ C.objects
  pub glued : (object : ℕ) → object < C.objects → IsGluedAt C F result object
  pub universal : IsInitialCocone C F (instance_of_table result.table) (map_of F.left result.left) (map_of F.right result.right)

-- what the call answers: a pushout, or the first clash, and then there is no cocone at all; want of memory may come at any frame
abbrev pub PushesOut : Signature → Frame → Result PushoutResult GlueFault → Type 0
PushesOut C F (Ok result) = IsPushoutOf C F result
PushesOut C F (Err (Clash object w c a b)) =
    ((numbers : List (List ℕ)) × (firsts : List (List ℕ)) × AreClassesOf C F numbers firsts × IsFirstClash C F numbers object.0 w c.0 a b)
    × ((T : Instance) (d s : Map) → IsCocone C F T d s → ⊥)
PushesOut C F (Err OutOfMemory) = Unit {0}
