-- The classes of a frame's parts, and the first two parts of one class that have different atoms.
use Rattle.std.specs.Prelude.{◌≡◌, ◌<◌, ◌⊎◌, ℕ, List, Some, slice_get}
use Rattle.rw_schema.specs.declared.atom.Atom.{Atom}
use Rattle.rw_schema.specs.declared.signature.AttrEnds.{AttrEnds}
use Rattle.rw_schema.specs.RowLists.{list_at}
use Rattle.rw_schema.specs.Signature.{Signature}
use Rattle.rw_spec.specs.Cocone.{Frame}
use Rattle.rw_classes.specs.Classes.{AreClasses}
use Rattle.rw_classes.specs.Merging.{IsClash}
use Rattle.rw_classes.specs.Places.{count_at, joined_at, cell_of}

-- a is the atom of the first part of class w that has one, and b that of the first later one that differs
abbrev pub IsClashAt : Frame → List ℕ → ℕ → ℕ → ℕ → Atom → Atom → Type 0
IsClashAt F numbers object c w a b = (first : ℕ) × (second : ℕ) × IsClash (cell_of F object c) numbers w first second a b

-- the parts of both sides of each object are divided into classes by what the apex joins
abbrev pub AreClassesOf : Signature → Frame → List (List ℕ) → List (List ℕ) → Type 0
AreClassesOf C F numbers firsts = (object : ℕ) → object < C.objects
    → AreClasses (count_at F object) (joined_at F object) (list_at numbers object) (list_at firsts object)

-- the place (object, class, attribute) comes before the other
abbrev pub IsEarlierPlace : ℕ → ℕ → ℕ → ℕ → ℕ → ℕ → Type 0
IsEarlierPlace object w c object' w' c' = (object < object') ⊎ ((object ≡ object') × ((w < w') ⊎ ((w ≡ w') × (c < c'))))

-- two parts of one class have different atoms, and there are none at an earlier object, class and attribute
pub record IsFirstClash (C : Signature) (F : Frame) (numbers : List (List ℕ)) (object w c : ℕ) (a b : Atom) : Type 0 where
  pub ends : AttrEnds
  pub there : slice_get C.attributes c ≡ Some ends
  pub holder : ends.object.0 ≡ object
  pub clash : IsClashAt F (list_at numbers object) object c w a b
  pub least : (object' w' c' : ℕ) (ends' : AttrEnds) (a' b' : Atom) → slice_get C.attributes c' ≡ Some ends' → ends'.object.0 ≡ object'
      → IsClashAt F (list_at numbers object') object' c' w' a' b' → IsEarlierPlace object' w' c' object w c → ⊥
