-- What is known of the gluing of two instances under the names of a step: it is there exactly where no atoms clash.
use Rattle.std.specs.Prelude.{◌≡◌, ◌<◌, ℕ, true, List, slice_index}
use Rattle.rw_schema.specs.declared.atom.Atom.{Atom}
use Rattle.rw_schema.specs.RowLists.{list_at}
use Rattle.rw_schema.specs.Signature.{Signature, IsCategory}
use Rattle.rw_spec.specs.Ascending.{ascends}
use Rattle.rw_spec.specs.Cocone.{Frame, IsCocone, IsInitialCocone}
use Rattle.rw_spec.specs.Instance.{Instance, IsInstance, Has}
use Rattle.rw_spec.specs.Natural.{Map, IsNatural}
use Rattle.rw_spec.specs.Redex.{Redex}
use Rattle.rw_classes.specs.Classes.{AreClasses}
use Rattle.rw_classes.specs.FirstClash.{IsFirstClash}
use Rattle.rw_classes.specs.Places.{count_at, joined_at}
use Rattle.rw_complement.specs.Named.{IsNamed, IsDoublePushout, context_frame}
use Rattle.rw_complement.specs.Redex.{IsRedex, CanBeGlued}
use Rattle.rw_glued.specs.Clash.{Clashes}
use Rattle.rw_glued.specs.Result.{AreJoined, HaveOneAtom, class_name, glued_of, left_name, right_name, next_after}

-- the apex and both sides are instances, and natural maps lead from the apex to the sides
pub record IsNaturalFrame (C : Signature) (F : Frame) : Type 0 where
  pub apex : IsInstance C F.apex
  pub left : IsInstance C F.left
  pub right : IsInstance C F.right
  pub to_left : IsNatural C F.apex F.left F.to_left
  pub to_right : IsNatural C F.apex F.right F.to_right

-- where the atoms of each class are one, the classes under their names are a pushout, and where there is a cocone they are one;
-- the first clash of two parts of one class is a clash, at a clash there is no cocone, and there is only one clash
pub record HasOneGluing (C : Signature) (F : Frame) (next : List ℕ) (numbers firsts : List (List ℕ)) : Type 0 where
  pub pushout : HaveOneAtom C F (list_at numbers)
      → IsInitialCocone C F (glued_of C F next (list_at numbers) (list_at firsts)) (left_name F next (list_at numbers) (list_at firsts)) (right_name F next (list_at numbers) (list_at firsts))
  pub named : HaveOneAtom C F (list_at numbers) → IsNamed C F next (left_name F next (list_at numbers) (list_at firsts)) (right_name F next (list_at numbers) (list_at firsts))
  pub one_atom : (T : Instance) (d s : Map) → IsCocone C F T d s → HaveOneAtom C F (list_at numbers)
  pub clash : (object w c : ℕ) (a b : Atom) → IsFirstClash C F numbers object w c a b
      → Clashes C F next object (class_name F next object (slice_index (list_at firsts object) w)) c a b
  pub none_at_clash : (object w c : ℕ) (a b : Atom) → Clashes C F next object w c a b → (T : Instance) (d s : Map) → IsCocone C F T d s → ⊥
  pub only_clash : (object w c : ℕ) (a b : Atom) (object' w' c' : ℕ) (a' b' : Atom) → Clashes C F next object w c a b → Clashes C F next object' w' c' a' b'
      → (object ≡ object') × (w ≡ w') × (c ≡ c') × (a ≡ a') × (b ≡ b')

-- the classes of a frame's parts decide what is glued of it
abbrev pub HaveOneGluing : Type 0
HaveOneGluing = (C : Signature) → IsCategory C → (F : Frame) → IsNaturalFrame C F → (next : List ℕ) (numbers firsts : List (List ℕ))
    → AreJoined C F next (list_at numbers) (list_at firsts) → HasOneGluing C F next numbers firsts

-- a redex of ascending names where the gluing condition holds, a right side, and the classes of what keep joins of the context
-- and the right side
pub record IsGluedRedex (C : Signature) (R : Redex) (right : Instance) (r : Map) (next : List ℕ) (numbers firsts : List (List ℕ)) : Type 0 where
  pub redex : IsRedex C R
  pub condition : CanBeGlued C R
  pub instance : IsInstance C right
  pub natural : IsNatural C R.keep right r
  pub host_ascends : (object : ℕ) → object < C.objects → ascends (R.host.names object) ≡ true
  pub right_ascends : (object : ℕ) → object < C.objects → ascends (right.names object) ≡ true
  pub below : (object w : ℕ) → object < C.objects → Has R.host object w → w < slice_index next object
  pub classes : (object : ℕ) → object < C.objects
      → AreClasses (count_at (context_frame C R right r) object) (joined_at (context_frame C R right r) object) (list_at numbers object) (list_at firsts object)

-- the classes of the context and a right side, under their names, are the double pushout
abbrev pub GluedAreDoublePushouts : Type 0
GluedAreDoublePushouts = (C : Signature) → IsCategory C → (R : Redex) (right : Instance) (r : Map) (next : List ℕ) (numbers firsts : List (List ℕ))
    → IsGluedRedex C R right r next numbers firsts → HaveOneAtom C (context_frame C R right r) (list_at numbers)
    → IsDoublePushout C R right r next (glued_of C (context_frame C R right r) next (list_at numbers) (list_at firsts)) (next_after C (context_frame C R right r) next)
