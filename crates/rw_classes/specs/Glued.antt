-- An instance of classes, object by object, whatever the names of the classes are.
use Rattle.std.specs.Prelude.{◌≡◌, ◌<◌, ◌+◌, ℕ, List, length, Some, slice_get, slice_index}
use Rattle.rw_schema.specs.declared.atom.Atom.{Atom}
use Rattle.rw_schema.specs.declared.signature.ArrowEnds.{ArrowEnds}
use Rattle.rw_schema.specs.declared.signature.AttrEnds.{AttrEnds}
use Rattle.rw_schema.specs.Signature.{Signature}
use Rattle.rw_spec.specs.Cocone.{Frame}
use Rattle.rw_spec.specs.Distinct.{AreDistinct}
use Rattle.rw_spec.specs.Instance.{Instance, Has}
use Rattle.rw_spec.specs.Natural.{Map}
use Rattle.rw_classes.specs.Classes.{AreClasses}
use Rattle.rw_classes.specs.Places.{count_at, joined_at, spot, either, cell_of}

-- H has one name for each class of the parts of both sides, l and r send each part to the name of its class, arrows lead
-- where those of a class's first part lead, and the atoms of a class are those of its parts
pub record AreGlued (C : Signature) (F : Frame) (H : Instance) (l r : Map) (numbers firsts : ℕ → List ℕ) : Type 0 where
  pub classes : (object : ℕ) → object < C.objects → AreClasses (count_at F object) (joined_at F object) (numbers object) (firsts object)
  pub each : (object : ℕ) → object < C.objects → length (H.names object) ≡ length (firsts object)
  pub apart : (object : ℕ) → object < C.objects → AreDistinct (H.names object)
  pub left : (object x : ℕ) → object < C.objects → Has F.left object x
      → l object x ≡ slice_index (H.names object) (slice_index (numbers object) (spot (F.left.names object) x))
  pub right : (object y : ℕ) → object < C.objects → Has F.right object y
      → r object y ≡ slice_index (H.names object) (slice_index (numbers object) (length (F.left.names object) + spot (F.right.names object) y))
  pub values : (a : ℕ) (ends : ArrowEnds) (w : ℕ) → slice_get C.arrows a ≡ Some ends → w < length (firsts ends.source.0)
      → H.value a (slice_index (H.names ends.source.0) w)
      ≡ either (F.left.names ends.source.0) (F.right.names ends.source.0) (λ x. l ends.target.0 (F.left.value a x)) (λ y. r ends.target.0 (F.right.value a y)) (slice_index (firsts ends.source.0) w)
  pub left_cells : (c : ℕ) (ends : AttrEnds) (x : ℕ) (atom : Atom) → slice_get C.attributes c ≡ Some ends → Has F.left ends.object.0 x
      → F.left.cell c x ≡ Some atom → H.cell c (l ends.object.0 x) ≡ Some atom
  pub right_cells : (c : ℕ) (ends : AttrEnds) (y : ℕ) (atom : Atom) → slice_get C.attributes c ≡ Some ends → Has F.right ends.object.0 y
      → F.right.cell c y ≡ Some atom → H.cell c (r ends.object.0 y) ≡ Some atom
  pub cells : (c : ℕ) (ends : AttrEnds) (w : ℕ) (atom : Atom) → slice_get C.attributes c ≡ Some ends → w < length (firsts ends.object.0)
      → H.cell c (slice_index (H.names ends.object.0) w) ≡ Some atom
      → (e : ℕ) × (e < count_at F ends.object.0) × (slice_index (numbers ends.object.0) e ≡ w) × (cell_of F ends.object.0 c e ≡ Some atom)
