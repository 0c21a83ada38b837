-- The names of what is glued: parts of the left side keep the least of their names, and new parts take next names.
use Rattle.std.specs.Prelude.{◌≡◌, ◌<◌, ◌≤◌, ◌+◌, ◌==◌, ℕ, Bool, true, not, nat_lt, filter, length, List, slice_index}
use Rattle.std.specs.List.{list_any}
use Rattle.rw_schema.specs.Signature.{Signature, IsCategory}
use Rattle.rw_spec.specs.Cocone.{Frame, IsInitialCocone}
use Rattle.rw_spec.specs.Instance.{Instance, IsInstance, Has}
use Rattle.rw_spec.specs.Natural.{Map}
use Rattle.rw_spec.specs.Redex.{Redex}
use Rattle.rw_spec.specs.Same.{AreSame}
use Rattle.rw_complement.specs.Complement.{IsContext}
use Rattle.rw_complement.specs.Context.{context_of, context_map}

-- the part of the right side is the image of no part of the apex
abbrev pub is_new : Frame → ℕ → ℕ → Bool
is_new F object y = not (list_any (λ z. F.to_right object z == y) (F.apex.names object))

-- the new parts of the right side at an object
abbrev pub new_parts : Frame → ℕ → List ℕ
new_parts F object = filter (is_new F object) (F.right.names object)

-- how many new parts come before a part
abbrev pub new_before : Frame → ℕ → ℕ → ℕ
new_before F object y = length (filter (λ other. nat_lt other y) (new_parts F object))

-- the image of parts of the left side has the least of their names, and a new part has the next name past those of the new
-- parts before it
pub record IsNamed (C : Signature) (F : Frame) (next : List ℕ) (d s : Map) : Type 0 where
  pub kept : (object x : ℕ) → object < C.objects → Has F.left object x
      → Has F.left object (d object x) × (d object (d object x) ≡ d object x) × (d object x ≤ x)
  pub fresh : (object y : ℕ) → object < C.objects → Has F.right object y → is_new F object y ≡ true
      → s object y ≡ slice_index next object + new_before F object y

-- a context, D, and right, to be glued along keep
abbrev pub right_frame : Redex → Instance → Map → Instance → Map → Frame
right_frame R right r D k = record { apex = R.keep; left = D; right = right; to_left = k; to_right = r }

-- H is the context and right, glued along keep, where old parts keep the least of their names and new ones take next names
pub record IsDoublePushout (C : Signature) (R : Redex) (right : Instance) (r : Map) (next : List ℕ) (H : Instance) (next_after : List ℕ) : Type 0 where
  pub context : Instance
  pub k : Map
  pub d : Map
  pub s : Map
  pub is_context : IsContext C R context k
  pub pushout : IsInitialCocone C (right_frame R right r context k) H d s
  pub named : IsNamed C (right_frame R right r context k) next d s
  pub grown : (object : ℕ) → object < C.objects
      → slice_index next_after object ≡ slice_index next object + length (new_parts (right_frame R right r context k) object)

-- the context that is known part by part and right, to be glued along keep
abbrev pub context_frame : Signature → Redex → Instance → Map → Frame
context_frame C R right r = right_frame R right r (context_of C R) (context_map R)

-- any two double pushouts of one redex and one right side are the same, and their next names too
abbrev pub HaveOneDoublePushout : Type 0
HaveOneDoublePushout = (C : Signature) → IsCategory C → (R : Redex) (right : Instance) (r : Map) (next : List ℕ) → IsInstance C right
    → (H H' : Instance) (after after' : List ℕ) → IsDoublePushout C R right r next H after → IsDoublePushout C R right r next H' after'
    → AreSame C H H' × ((object : ℕ) → object < C.objects → slice_index after object ≡ slice_index after' object)
