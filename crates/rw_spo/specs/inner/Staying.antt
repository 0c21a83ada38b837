-- What stays, where these elements go, and the lists of it.
use Rattle.std.specs.Prelude.{◌≡◌, ◌&&◌, ◌||◌, ℕ, Bool, true, false, not, cond, filter, is_none, length, map, replicate, List, [], Option, Some, None}
use Rattle.std.specs.List.{range_with_len}
use Rattle.rw_schema.specs.declared.signature.AttrEnds.{AttrEnds}
use Rattle.rw_schema.specs.First.{map_in}
use Rattle.rw_schema.specs.Signature.{Signature, holder_of}
use Rattle.rw_spec.specs.Instance.{Instance}
use Rattle.rw_partial.specs.SubInstance.{Elements}
use Rattle.rw_partial.specs.Removal.{left_of}
use Rattle.rw_pattern.specs.PatternLists.{PatternLists}
use Rattle.rw_rule.specs.Images.{parts_of}
use Rattle.rw_rule.specs.RuleLists.{RuleLists}
use Rattle.rw_delta.specs.ContextLists.{ContextLists}
use Rattle.rw_dpo.specs.Contexts.{name_of_kept}
use Rattle.rw_spo.specs.declared.element.Element.{Element}
use Rattle.rw_spo.specs.inner.Removal.{cell_at, part_at}
use Rattle.rw_spo.specs.inner.Removed.{goes, is_same}

-- the elements of the host and of the right side that stay
abbrev pub stays_in : Signature → Bool → List Element → Elements
stays_in C is_right elements =
    left_of C (λ object x. goes elements (part_at is_right object x)) (λ c x. goes elements (cell_at is_right c (holder_of C c) x))

-- the element of the host goes and, if it is a cell, its part does not
abbrev pub goes_alone : List Element → Option ℕ → ℕ → ℕ → Bool
goes_alone elements attribute object x =
    goes elements (record { is_right = false; attribute = attribute; object = object; part = x }) && (is_none attribute || not (goes elements (part_at false object x)))

-- the element of the right side and its part stay
abbrev pub stays_right : List Element → Option ℕ → ℕ → ℕ → Bool
stays_right elements attribute object y =
    not (goes elements (part_at true object y)) && not (goes elements (record { is_right = true; attribute = attribute; object = object; part = y }))

-- the name of a kept part, where its part of the host stays
abbrev pub name_staying : List Element → RuleLists → List ℕ → ℕ → ℕ → Option ℕ
name_staying elements rule tuple object part =
    cond (not (goes elements (part_at false object (name_of_kept rule tuple object part)))) (Some (name_of_kept rule tuple object part)) None

-- the part of an element of the host that goes alone, of this attribute and object
abbrev pub part_alone : List Element → Option ℕ → ℕ → Element → Option ℕ
part_alone elements attribute object element =
    cond (is_same element (record { is_right = false; attribute = attribute; object = object; part = element.part })
    && (is_none attribute || not (goes elements (part_at false object element.part)))) (Some element.part) None

-- the names at which the host's elements go alone
abbrev pub names_alone : List Element → Instance → Option ℕ → ℕ → List ℕ
names_alone elements X attribute object = filter (goes_alone elements attribute object) (X.names object)

-- of the object's kept parts the names that stay
abbrev pub names_staying : List Element → RuleLists → List ℕ → ℕ → List (Option ℕ)
names_staying elements rule tuple object = map (name_staying elements rule tuple object) (parts_of rule.keep object)

-- of the object's right parts whether their elements stay
abbrev pub marks_staying : List Element → PatternLists → Option ℕ → ℕ → List Bool
marks_staying elements right attribute object = map (stays_right elements attribute object) (parts_of right object)

-- the lists are of what stays
pub record AreStaying (C : Signature) (rule : RuleLists) (tuple : List ℕ) (X : Instance) (elements : List Element) (given : List ℕ)
    (context : ContextLists) : Type 0 where
  pub of_keep : context.of_keep ≡ map (names_staying elements rule tuple) (range_with_len 0 C.objects)
  pub removed : context.removed ≡ map (names_alone elements X None) (range_with_len 0 C.objects)
  pub copies : context.copies ≡ []
  pub blank : context.blank ≡ map_in (λ c (ends : AttrEnds). names_alone elements X (Some c) ends.object.0) 0 C.attributes
  pub right : context.right ≡ map (marks_staying elements rule.right None) (range_with_len 0 C.objects)
  pub right_cells : context.right_cells ≡ map_in (λ c (ends : AttrEnds). marks_staying elements rule.right (Some c) ends.object.0) 0 C.attributes
  pub rows : context.rows ≡ replicate (length C.arrows) []
  pub next : context.next ≡ given
