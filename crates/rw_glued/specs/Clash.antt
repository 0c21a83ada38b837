-- Clashes of atoms that are demanded of one part of what is glued.
use Rattle.std.specs.Prelude.{◌≡◌, ◌≢◌, ◌<◌, ℕ, List, Some, None, slice_get}
use Rattle.rw_schema.specs.declared.atom.Atom.{Atom}
use Rattle.rw_schema.specs.declared.signature.AttrEnds.{AttrEnds}
use Rattle.rw_schema.specs.Signature.{Signature}
use Rattle.rw_spec.specs.Cocone.{Frame, IsInitialCocone}
use Rattle.rw_spec.specs.Instance.{Instance}
use Rattle.rw_spec.specs.Natural.{Map}
use Rattle.rw_classes.specs.FirstClash.{IsEarlierPlace}
use Rattle.rw_classes.specs.Places.{count_at, either, cell_of}
use Rattle.rw_complement.specs.Named.{IsNamed}

-- the same instance with all cells blank
abbrev pub without_cells : Instance → Instance
without_cells X = record { names = X.names; value = X.value; cell = λ c x. None }

-- the same frame with all cells blank
abbrev pub frame_without_cells : Frame → Frame
frame_without_cells F = record {
  apex = without_cells F.apex;
  left = without_cells F.left;
  right = without_cells F.right;
  to_left = F.to_left;
  to_right = F.to_right;
}

-- the part of the result to which the part at a place goes, where left parts are counted first
abbrev pub part_of_place : Frame → Map → Map → ℕ → ℕ → ℕ
part_of_place F d s object e = either (F.left.names object) (F.right.names object) (d object) (s object) e

-- of the parts that go to part w, a is the first atom, and b the first after it that differs
pub record IsClashOf (F : Frame) (d s : Map) (object c w : ℕ) (a b : Atom) : Type 0 where
  pub first : ℕ
  pub second : ℕ
  pub order : first < second
  pub within : second < count_at F object
  pub first_part : part_of_place F d s object first ≡ w
  pub second_part : part_of_place F d s object second ≡ w
  pub first_atom : cell_of F object c first ≡ Some a
  pub second_atom : cell_of F object c second ≡ Some b
  pub differ : a ≢ b
  pub none_before : (e : ℕ) → e < first → part_of_place F d s object e ≡ w → cell_of F object c e ≡ None
  pub same_between : (e : ℕ) (atom : Atom) → first < e → e < second → part_of_place F d s object e ≡ w → cell_of F object c e ≡ Some atom → atom ≡ a

-- a clash at part w, where there is none at an earlier object, name and attribute
pub record IsFirstClashOf (C : Signature) (F : Frame) (d s : Map) (object w c : ℕ) (a b : Atom) : Type 0 where
  pub ends : AttrEnds
  pub there : slice_get C.attributes c ≡ Some ends
  pub holder : ends.object.0 ≡ object
  pub clash : IsClashOf F d s object c w a b
  pub least : (object' w' c' : ℕ) (ends' : AttrEnds) (a' b' : Atom) → slice_get C.attributes c' ≡ Some ends' → ends'.object.0 ≡ object'
      → IsClashOf F d s object' c' w' a' b' → IsEarlierPlace object' w' c' object w c → ⊥

-- two atoms clash: both sides are glued and named with their cells left out, and there the first clash is this one
pub record Clashes (C : Signature) (F : Frame) (next : List ℕ) (object w c : ℕ) (a b : Atom) : Type 0 where
  pub shape : Instance
  pub d : Map
  pub s : Map
  pub pushout : IsInitialCocone C (frame_without_cells F) shape d s
  pub named : IsNamed C (frame_without_cells F) next d s
  pub clash : IsFirstClashOf C F d s object w c a b
