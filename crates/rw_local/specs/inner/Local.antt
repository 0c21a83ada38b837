-- What is glued, from the classes of the touched names alone: every other name stands for itself.
use Rattle.std.specs.Prelude.{◌≡◌, ◌==◌, ◌<◌, ◌⊎◌, ◌++◌, ℕ, Bool, true, cond, filter, map, List, [], Option, Some, Contains, slice_get, slice_index}
use Rattle.std.specs.List.{list_any}
use Rattle.rw_schema.specs.declared.atom.Atom.{Atom}
use Rattle.rw_schema.specs.declared.signature.AttrEnds.{AttrEnds}
use Rattle.rw_schema.specs.Signature.{Signature, holder_of, source_of}
use Rattle.rw_spec.specs.Cocone.{Frame}
use Rattle.rw_spec.specs.Ends.{target_of}
use Rattle.rw_spec.specs.Homomorphism.{after}
use Rattle.rw_spec.specs.Instance.{Instance, Has, look}
use Rattle.rw_spec.specs.Natural.{Map, SameOn}
use Rattle.rw_spec.specs.Ascending.{ascends}
use Rattle.rw_universal.specs.Gluing.{From}
use Rattle.rw_classes.specs.Classes.{AreClasses}
use Rattle.rw_classes.specs.Places.{count_at, joined_at}
use Rattle.rw_delta.specs.ContextLists.{is_in}
use Rattle.rw_complement.specs.Named.{IsNamed, new_parts}
use Rattle.rw_glued.specs.Result.{Classing, glued_of, left_name, right_name}

-- the frame over the touched names of the left side alone; rows may lead out of them
abbrev pub narrow : Frame → (ℕ → List ℕ) → Frame
narrow F touched = record {
  apex = F.apex;
  left = record { names = touched; value = F.left.value; cell = F.left.cell };
  right = F.right;
  to_left = F.to_left;
  to_right = F.to_right;
}

-- the schema without arrows, attributes and equations
abbrev pub only_objects : Signature → Signature
only_objects C = record { objects = C.objects; arrows = []; attributes = []; equations = [] }

-- the schema without arrows and equations
abbrev pub only_parts : Signature → Signature
only_parts C = record { objects = C.objects; arrows = []; attributes = C.attributes; equations = [] }

-- what a local body has of each object: the touched names, ascending, among them each name of an apex part; and the classes
-- of these names and the right parts
pub record AreLocal (C : Signature) (F : Frame) (next : List ℕ) (touched : ℕ → List ℕ) (numbers firsts : Classing) : Type 0 where
  pub touched_ascends : (object : ℕ) → object < C.objects → ascends (touched object) ≡ true
  pub right_ascends : (object : ℕ) → object < C.objects → ascends (F.right.names object) ≡ true
  pub below : (object x : ℕ) → object < C.objects → Has F.left object x → x < slice_index next object
  pub in_left : (object x : ℕ) → object < C.objects → Contains (touched object) x → Has F.left object x
  pub under : (object z : ℕ) → object < C.objects → Has F.apex object z → Contains (touched object) (F.to_left object z)
  pub classes : (object : ℕ) → object < C.objects
      → AreClasses (count_at (narrow F touched) object) (joined_at (narrow F touched) object) (numbers object) (firsts object)

-- where a name of the left side goes: a touched one to the name of its class, another to itself
abbrev pub renamed : Frame → List ℕ → (ℕ → List ℕ) → Classing → Classing → Map
renamed F next touched numbers firsts object x = cond (is_in (touched object) x) (left_name (narrow F touched) next numbers firsts object x) x

-- where a right part goes: to the name of its class
abbrev pub placed : Frame → List ℕ → (ℕ → List ℕ) → Classing → Classing → Map
placed F next touched numbers firsts = right_name (narrow F touched) next numbers firsts

-- the cell of a name that stays: that of its class where it is touched, else its own
abbrev pub local_cell : Signature → Frame → List ℕ → (ℕ → List ℕ) → Classing → Classing → ℕ → ℕ → Option Atom
local_cell C F next touched numbers firsts c w =
    cond (is_in (touched (holder_of C c)) w) ((glued_of C (narrow F touched) next numbers firsts).cell c w) (F.left.cell c w)

-- all that is used of the classes: names are those of the step, the apex is joined, and a function that does not tell apart
-- what the apex joins does not tell a name from its new name
pub record IsRenaming (C : Signature) (F : Frame) (next : List ℕ) (d s : Map) : Type 0 where
  pub named : IsNamed C F next d s
  pub agrees : SameOn C F.apex (after d F.to_left) (after s F.to_right)
  pub finest : (object : ℕ) (h t : ℕ → ℕ) (x : ℕ) → object < C.objects
      → ((z : ℕ) → Has F.apex object z → h (F.to_left object z) ≡ t (F.to_right object z)) → Has F.left object x → h (d object x) ≡ h x

-- the cells of names that stay have the atoms of all parts that go there, and no others
pub record AreCells (C : Signature) (F : Frame) (d s : Map) (cell : ℕ → ℕ → Option Atom) : Type 0 where
  pub of_left : (c : ℕ) (ends : AttrEnds) (x : ℕ) (atom : Atom) → slice_get C.attributes c ≡ Some ends → Has F.left ends.object.0 x
      → F.left.cell c x ≡ Some atom → cell c (d ends.object.0 x) ≡ Some atom
  pub of_right : (c : ℕ) (ends : AttrEnds) (z : ℕ) (atom : Atom) → slice_get C.attributes c ≡ Some ends → Has F.apex ends.object.0 z
      → F.right.cell c (F.to_right ends.object.0 z) ≡ Some atom → cell c (s ends.object.0 (F.to_right ends.object.0 z)) ≡ Some atom
  pub from_some : (c : ℕ) (ends : AttrEnds) (w : ℕ) (atom : Atom) → slice_get C.attributes c ≡ Some ends → Has F.left ends.object.0 w
      → d ends.object.0 w ≡ w → cell c w ≡ Some atom
      → From F.left d (λ x. F.left.cell c x ≡ Some atom) ends.object.0 w ⊎ From F.right s (λ y. F.right.cell c y ≡ Some atom) ends.object.0 w

-- the name is not merged away
abbrev pub is_least : Map → ℕ → ℕ → Bool
is_least d object x = d object x == x

-- the names of new parts
abbrev pub new_names : Frame → Map → ℕ → List ℕ
new_names F s object = map (s object) (new_parts F object)

-- the result: names that are not merged away, with redirected rows and merged cells, and the new parts
abbrev pub wanted : Signature → Frame → Map → Map → (ℕ → ℕ → Option Atom) → Instance
wanted C F d s cell = record {
  names = λ object. filter (is_least d object) (F.left.names object) ++ new_names F s object;
  value = λ a w. look (d (target_of C a) (F.left.value a w)) (new_names F s (source_of C a))
      (map (λ y. s (target_of C a) (F.right.value a y)) (new_parts F (source_of C a))) w;
  cell = λ c w. look (cell c w) (new_names F s (holder_of C c)) (map (F.right.cell c) (new_parts F (holder_of C c))) w;
}

-- the names of the left side that are those of apex parts
abbrev pub under_names : Frame → ℕ → List ℕ
under_names F object = filter (λ x. list_any (λ z. F.to_left object z == x) (F.apex.names object)) (F.left.names object)
