-- The context of a single pushout: the largest fitting pair, and the lists that it is kept in.
use Rattle.std.specs.Prelude.{◌≡◌, ◌&&◌, ◌<◌, ℕ, Bool, false, not, cond, filter, length, map, replicate, List, [], Option, Some, None, slice_get, slice_index_or}
use Rattle.rw_schema.specs.declared.atom.Atom.{Atom}
use Rattle.rw_schema.specs.declared.signature.AttrEnds.{AttrEnds}
use Rattle.rw_schema.specs.RowLists.{list_at}
use Rattle.rw_schema.specs.Signature.{Signature, holder_of}
use Rattle.rw_spec.specs.Instance.{Instance}
use Rattle.rw_partial.specs.SubInstance.{AreSameElements, Elements}
use Rattle.rw_partial.specs.SinglePushout.{Applied, IsLargestPair}
use Rattle.rw_pattern.specs.MapFaults.{image_of}
use Rattle.rw_pattern.specs.PatternLists.{map_of_tuple, with_cells}
use Rattle.rw_rule.specs.Images.{parts_of}
use Rattle.rw_rule.specs.RuleLists.{RuleLists}
use Rattle.rw_rule.specs.Sets.{is_set}
use Rattle.rw_delta.specs.ContextLists.{ContextLists, is_in}
use Rattle.rw_redex.specs.Instantiated.{keep_at, left_at}
use Rattle.rw_dpo.specs.Contexts.{name_of_kept}

-- a rule at a match, whose right side has these values in its cells
abbrev pub valued : RuleLists → List ℕ → Instance → (ℕ → ℕ → Option Atom) → Applied
valued rule tuple X values = record {
  left = left_at rule tuple X;
  keep = keep_at rule tuple X;
  right = with_cells rule.right values;
  host = X;
  l = image_of rule.l;
  r = image_of rule.r;
  m = map_of_tuple rule.goal.left tuple;
  set = is_set rule.sets;
}

-- a rule at a match, where no value is given to its right side yet
abbrev pub applied : RuleLists → List ℕ → Instance → Applied
applied rule tuple X = valued rule tuple X (λ c y. None)

-- the elements of the host that a context has: a cell that is made blank is none of them
abbrev pub host_elements : Signature → ContextLists → Elements
host_elements C context = record {
  part = λ object x. not (is_in (list_at context.removed object) x);
  cell = λ c x. not (is_in (list_at context.removed (holder_of C c)) x) && not (is_in (list_at context.blank c) x);
}

-- the elements of the right side that it has
abbrev pub right_elements : ContextLists → Elements
right_elements context = record {
  part = λ object y. slice_index_or (list_at context.right object) y false;
  cell = λ c y. slice_index_or (list_at context.right_cells c) y false;
}

-- the name that a kept part has among these elements of the host
abbrev pub name_among : Elements → RuleLists → List ℕ → ℕ → ℕ → Option ℕ
name_among D rule tuple object part =
    cond (D.part object (name_of_kept rule tuple object part)) (Some (name_of_kept rule tuple object part)) None

-- there is one list of each kind for each object, arrow and attribute
pub record HasLists (C : Signature) (context : ContextLists) : Type 0 where
  pub of_keep : length context.of_keep ≡ C.objects
  pub removed : length context.removed ≡ C.objects
  pub blank : length context.blank ≡ length C.attributes
  pub right : length context.right ≡ C.objects
  pub right_cells : length context.right_cells ≡ length C.attributes

-- the lists are those of the elements D of the host and R of the right side: names of the host that are not in D, names in D
-- whose cell is not, and what of the right side is in R. Nothing is copied, no arrow leads elsewhere and no name is taken
pub record IsPairContext (C : Signature) (rule : RuleLists) (tuple : List ℕ) (X : Instance) (D R : Elements) (given : List ℕ)
    (context : ContextLists) : Type 0 where
  pub lists : HasLists C context
  pub of_keep : (object : ℕ) → object < C.objects → list_at context.of_keep object ≡ map (name_among D rule tuple object) (parts_of rule.keep object)
  pub removed : (object : ℕ) → object < C.objects → list_at context.removed object ≡ filter (λ x. not (D.part object x)) (X.names object)
  pub copies : context.copies ≡ []
  pub blank : (c : ℕ) (ends : AttrEnds) → slice_get C.attributes c ≡ Some ends
      → list_at context.blank c ≡ filter (λ x. D.part ends.object.0 x && not (D.cell c x)) (X.names ends.object.0)
  pub right : (object : ℕ) → object < C.objects → list_at context.right object ≡ map (R.part object) (parts_of rule.right object)
  pub right_cells : (c : ℕ) (ends : AttrEnds) → slice_get C.attributes c ≡ Some ends
      → list_at context.right_cells c ≡ map (R.cell c) (parts_of rule.right ends.object.0)
  pub rows : context.rows ≡ replicate (length C.arrows) []
  pub next : context.next ≡ given

-- the two pairs have the same elements
abbrev pub AreSamePair : Signature → Applied → Elements → Elements → Elements → Elements → Type 0
AreSamePair C S D R E Q = AreSameElements C S.host D E × AreSameElements C S.right R Q

-- each largest fitting pair has the elements of this one
abbrev pub IsOnlyPair : Signature → Applied → Elements → Elements → Type 0
IsOnlyPair C S D R = (E Q : Elements) → IsLargestPair C S E Q → AreSamePair C S D R E Q
