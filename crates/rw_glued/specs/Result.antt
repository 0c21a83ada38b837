-- The classes of what an apex joins, as an instance under the names of a double pushout.
use Rattle.std.specs.Prelude.{◌≡◌, ◌==◌, ◌<◌, ◌+◌, ◌&&◌, ℕ, true, map, find, is_some, length, List, Option, Some, option_and_then, slice_get, slice_index}
use Rattle.std.specs.List.{range_with_len}
use Rattle.rw_schema.specs.declared.atom.Atom.{Atom}
use Rattle.rw_schema.specs.declared.signature.AttrEnds.{AttrEnds}
use Rattle.rw_schema.specs.Signature.{Signature, source_of, holder_of}
use Rattle.rw_spec.specs.Cocone.{Frame}
use Rattle.rw_spec.specs.Ends.{target_of}
use Rattle.rw_spec.specs.Instance.{Instance, Has}
use Rattle.rw_spec.specs.Ascending.{ascends}
use Rattle.rw_classes.specs.Classes.{AreClasses}
use Rattle.rw_classes.specs.Places.{count_at, joined_at, spot, either, cell_of}
use Rattle.rw_complement.specs.Named.{new_parts, new_before}

-- of each object, for each part of both sides the number of its class, or for each class its first part
abbrev pub Classing : Type 0
Classing = ℕ → List ℕ

-- the name of a class, given by its first part: that of a left part, or a next name
abbrev pub class_name : Frame → List ℕ → ℕ → ℕ → ℕ
class_name F next object e = either (F.left.names object) (F.right.names object) (λ x. x) (λ y. slice_index next object + new_before F object y) e

-- the names of the classes
abbrev pub class_names : Frame → List ℕ → Classing → ℕ → List ℕ
class_names F next firsts object = map (class_name F next object) (firsts object)

-- the name of the class of a part, given by its place
abbrev pub name_at : Frame → List ℕ → Classing → Classing → ℕ → ℕ → ℕ
name_at F next numbers firsts object e = class_name F next object (slice_index (firsts object) (slice_index (numbers object) e))

-- the name of the class of a left part
abbrev pub left_name : Frame → List ℕ → Classing → Classing → ℕ → ℕ → ℕ
left_name F next numbers firsts object x = name_at F next numbers firsts object (spot (F.left.names object) x)

-- the name of the class of a right part
abbrev pub right_name : Frame → List ℕ → Classing → Classing → ℕ → ℕ → ℕ
right_name F next numbers firsts object y = name_at F next numbers firsts object (length (F.left.names object) + spot (F.right.names object) y)

-- the atom of the first part of a class that has one
abbrev pub class_atom : Frame → List ℕ → ℕ → ℕ → ℕ → Option Atom
class_atom F numbers object c w =
    option_and_then (cell_of F object c) (find (λ e. slice_index numbers e == w && is_some (cell_of F object c e)) (range_with_len 0 (count_at F object)))

-- where an arrow leads from a class, given by its first part
abbrev pub value_of_class : Frame → List ℕ → Classing → Classing → ℕ → ℕ → ℕ → ℕ → ℕ
value_of_class F next numbers firsts source target a e =
    either (F.left.names source) (F.right.names source)
    (λ x. left_name F next numbers firsts target (F.left.value a x)) (λ y. right_name F next numbers firsts target (F.right.value a y)) e

-- the instance of the classes
abbrev pub glued_of : Signature → Frame → List ℕ → Classing → Classing → Instance
glued_of C F next numbers firsts = record {
  names = class_names F next firsts;
  value = λ a w. value_of_class F next numbers firsts (source_of C a) (target_of C a) a
      (slice_index (firsts (source_of C a)) (spot (class_names F next firsts (source_of C a)) w));
  cell = λ c w. class_atom F (numbers (holder_of C c)) (holder_of C c) c (spot (class_names F next firsts (holder_of C c)) w);
}

-- the atoms of the parts of each class are one
abbrev pub HaveOneAtom : Signature → Frame → Classing → Type 0
HaveOneAtom C F numbers = (c : ℕ) (ends : AttrEnds) (e other : ℕ) (a b : Atom) → slice_get C.attributes c ≡ Some ends
    → e < count_at F ends.object.0 → other < count_at F ends.object.0 → slice_index (numbers ends.object.0) e ≡ slice_index (numbers ends.object.0) other
    → cell_of F ends.object.0 c e ≡ Some a → cell_of F ends.object.0 c other ≡ Some b → a ≡ b

-- names ascend on both sides, each left one is below the next name, and the classes are those of what the apex joins
pub record AreJoined (C : Signature) (F : Frame) (next : List ℕ) (numbers firsts : Classing) : Type 0 where
  pub left_ascends : (object : ℕ) → object < C.objects → ascends (F.left.names object) ≡ true
  pub right_ascends : (object : ℕ) → object < C.objects → ascends (F.right.names object) ≡ true
  pub below : (object x : ℕ) → object < C.objects → Has F.left object x → x < slice_index next object
  pub classes : (object : ℕ) → object < C.objects → AreClasses (count_at F object) (joined_at F object) (numbers object) (firsts object)

-- the next names afterwards: each new part has taken one
abbrev pub next_after : Signature → Frame → List ℕ → List ℕ
next_after C F next = map (λ object. slice_index next object + length (new_parts F object)) (range_with_len 0 C.objects)
