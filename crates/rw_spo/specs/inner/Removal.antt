-- What has to go, and what goes with it.
use Rattle.std.specs.Prelude.{◌≡◌, ◌≢◌, ◌==◌, ◌&&◌, ◌||◌, ◌++◌, ◌<◌, ℕ, Bool, true, false, not, cond, List, Option, Some, None, Contains, is_none, slice_get, slice_index}
use Rattle.rw_schema.specs.declared.signature.ArrowEnds.{ArrowEnds}
use Rattle.rw_schema.specs.declared.signature.AttrEnds.{AttrEnds}
use Rattle.rw_schema.specs.RowLists.{list_at}
use Rattle.rw_schema.specs.Signature.{Signature, holder_of}
use Rattle.rw_spec.specs.Instance.{Instance, Has}
use Rattle.rw_partial.specs.SubInstance.{Elements}
use Rattle.rw_partial.specs.SinglePushout.{Applied}
use Rattle.rw_partial.specs.Removal.{NoPart, NoCell, NoRightPart, NoRightCell, left_of}
use Rattle.rw_pattern.specs.MapFaults.{image_of}
use Rattle.rw_pattern.specs.PatternLists.{map_of_tuple, size_of}
use Rattle.rw_rule.specs.Images.{is_image}
use Rattle.rw_rule.specs.RuleLists.{RuleLists}
use Rattle.rw_rule.specs.Sets.{is_set}
use Rattle.rw_dpo.specs.Contexts.{name_of_kept}
use Rattle.rw_spo.specs.declared.element.Element.{Element}
use Rattle.rw_spo.specs.inner.Removed.{goes}

-- a part, and a cell of a part
abbrev pub part_at : Bool → ℕ → ℕ → Element
part_at is_right object part = record { is_right = is_right; attribute = None; object = object; part = part }

abbrev pub cell_at : Bool → ℕ → ℕ → ℕ → Element
cell_at is_right c object part = record { is_right = is_right; attribute = Some c; object = object; part = part }

-- the right side, or the host
abbrev pub side_of : Applied → Bool → Instance
side_of S is_right = cond is_right S.right S.host

-- of a kept part its right part, or the part of the host
abbrev pub end_of : RuleLists → List ℕ → Bool → ℕ → ℕ → ℕ
end_of rule tuple is_right object z = cond is_right (image_of rule.r object z) (name_of_kept rule tuple object z)

-- the element at the right part is one that the host has too: it is no set cell
abbrev pub is_common : RuleLists → Option ℕ → ℕ → Bool
is_common rule None y = true
is_common rule (Some c) y = not (is_set rule.sets c y)

-- the element at the other end of a kept part that has this one at its end
abbrev pub partner : RuleLists → List ℕ → Element → ℕ → Option Element
partner rule tuple element z =
    cond (is_common rule element.attribute (image_of rule.r element.object z) && end_of rule tuple element.is_right element.object z == element.part)
    (Some (record { is_right = not element.is_right; attribute = element.attribute; object = element.object; part = end_of rule tuple (not element.is_right) element.object z })) None

-- the part of the host that a left part is matched to, where the left part is not kept
abbrev pub deleted : RuleLists → List ℕ → ℕ → ℕ → Option Element
deleted rule tuple object part = cond (is_image rule.l object part) None (Some (part_at false object (map_of_tuple rule.goal.left tuple object part)))

-- the host's cell of a kept part whose right cell is set
abbrev pub overwritten : RuleLists → List ℕ → ℕ → ℕ → ℕ → Option Element
overwritten rule tuple c object z = cond (is_set rule.sets c (image_of rule.r object z)) (Some (cell_at false c object (name_of_kept rule tuple object z))) None

-- the right part, where the arrow leads from it to this number
abbrev pub source_in : RuleLists → ℕ → ℕ → ℕ → ℕ → Option Element
source_in rule arrow object target part = cond (slice_index (list_at rule.right.rows arrow) part == target) (Some (part_at true object part)) None

-- no fitting pair has the element, and it is no set cell
abbrev pub IsNowhere : Signature → Applied → Bool → Option ℕ → ℕ → ℕ → Type 0
IsNowhere C S false None object x = NoPart C S object x
IsNowhere C S false (Some c) object x = NoCell C S c x
IsNowhere C S true None object y = NoRightPart C S object y
IsNowhere C S true (Some c) object y = (S.set c y ≡ false) × NoRightCell C S c y

-- the attribute, if there is one, is of the object
abbrev pub IsOf : Signature → Option ℕ → ℕ → Type 0
IsOf C None object = Unit {0}
IsOf C (Some c) object = (ends : AttrEnds) × (slice_get C.attributes c ≡ Some ends) × (ends.object.0 ≡ object)

-- the element is there, and no fitting pair has it
pub record MustGo (C : Signature) (S : Applied) (element : Element) : Type 0 where
  pub object : element.object < C.objects
  pub attribute : IsOf C element.attribute element.object
  pub there : Has (side_of S element.is_right) element.object element.part
  pub nowhere : IsNowhere C S element.is_right element.attribute element.object element.part

abbrev pub AllMustGo : Signature → Applied → List Element → Type 0
AllMustGo C S elements = (element : Element) → Contains elements element → MustGo C S element

-- some elements come behind the others, and they have to go where the others have to
pub record Grows (C : Signature) (S : Applied) (old new : List Element) : Type 0 where
  pub more : List Element
  pub behind : new ≡ old ++ more
  pub sound : AllMustGo C S old → AllMustGo C S new

-- what f gives of the numbers below n is among the elements
abbrev pub HasBelow : ℕ → (ℕ → Option Element) → List Element → Type 0
HasBelow n f elements = (k : ℕ) (element : Element) → k < n → f k ≡ Some element → Contains elements element

-- each part that the arrow leads to this one is among the elements
abbrev pub IsFollowedAlong : Applied → List Element → Element → ℕ → ArrowEnds → Type 0
IsFollowedAlong S elements element a ends =
    (x : ℕ) → Has (side_of S element.is_right) ends.source.0 x → (side_of S element.is_right).value a x ≡ element.part
    → Contains elements (part_at element.is_right ends.source.0 x)

-- so is each part that an arrow of the target's leads to this one
abbrev pub IsFollowedBack : Signature → Applied → List Element → Element → Type 0
IsFollowedBack C S elements element =
    element.attribute ≡ None → (a : ℕ) (ends : ArrowEnds) → slice_get C.arrows a ≡ Some ends → ends.target.0 ≡ element.object → IsFollowedAlong S elements element a ends

-- whatever goes at once with the element is among the elements
pub record IsFollowed (C : Signature) (rule : RuleLists) (tuple : List ℕ) (S : Applied) (elements : List Element) (element : Element) : Type 0 where
  pub arrows : IsFollowedBack C S elements element
  pub kept : HasBelow (size_of rule.keep element.object) (partner rule tuple element) elements

-- so it is with each of the first elements
abbrev pub AreFollowed : Signature → RuleLists → List ℕ → Applied → List Element → ℕ → Type 0
AreFollowed C rule tuple S elements n = (k : ℕ) (element : Element) → k < n → slice_get elements k ≡ Some element → IsFollowed C rule tuple S elements element

-- the elements have to go, and nothing else has to
pub record IsSettled (C : Signature) (rule : RuleLists) (tuple : List ℕ) (S : Applied) (elements : List Element) : Type 0 where
  pub sound : AllMustGo C S elements
  pub deleted : (object : ℕ) → object < C.objects → HasBelow (size_of rule.goal.left object) (deleted rule tuple object) elements
  pub overwritten : (c : ℕ) (ends : AttrEnds) → slice_get C.attributes c ≡ Some ends → HasBelow (size_of rule.keep ends.object.0) (overwritten rule tuple c ends.object.0) elements
  pub followed : (element : Element) → Contains elements element → IsFollowed C rule tuple S elements element
