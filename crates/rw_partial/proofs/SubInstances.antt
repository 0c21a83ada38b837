-- Sub-instances are instances.
use Rattle.std.proofs.Common.{◌≡◌, ◌∙◌, ℕ, Bool, true, false, cond, List, [], ◌∷◌, Option, Some, None, refl, sym}
use Rattle.rw_schema.specs.declared.atom.Atom.{Atom}
use Rattle.rw_schema.specs.declared.ids.ArrowId.{ArrowId}
use Rattle.rw_schema.specs.Signature.{Signature, IsCategory}
use Rattle.rw_spec.specs.Instance.{Instance, IsInstance, Has, follow}
use Rattle.rw_spec.proofs.Sequences.{contains_filter, contained_in_filter}
use Rattle.rw_partial.specs.SubInstance.{Elements, IsSubInstance, restricted}

-- a part in the set is a part of the restricted instance
pub has_restricted : (X : Instance) (E : Elements) (object x : ℕ) → Has X object x → E.part object x ≡ true → Has (restricted X E) object x
has_restricted X E object x part in_set = contains_filter (E.part object) (X.names object) x part in_set

-- a part of the restricted instance is one, and in the set
pub restricted_has : (X : Instance) (E : Elements) (object x : ℕ) → Has (restricted X E) object x → Has X object x × (E.part object x ≡ true)
restricted_has X E object x there = contained_in_filter (E.part object) (X.names object) x there

-- an atom of the restricted instance is the instance's, in a cell of the set
pub restricted_atom : (here : Bool) (cell : Option Atom) (atom : Atom) → cond here cell None ≡ Some atom → (here ≡ true) × (cell ≡ Some atom)
restricted_atom true cell atom is = (refl, is)
restricted_atom false cell atom is = let no : ⊥ = cc in absurd no

-- paths lead where they lead in the instance
follow_restricted : (X : Instance) (E : Elements) (path : List ArrowId) (x : ℕ) → follow (restricted X E) path x ≡ follow X path x
follow_restricted X E [] x = refl
follow_restricted X E (arrow ∷ path) x = follow_restricted X E path (X.value arrow.0 x)

-- a sub-instance is an instance
pub sub_instance : (C : Signature) → IsCategory C → (X : Instance) (E : Elements) → IsInstance C X → IsSubInstance C X E → IsInstance C (restricted X E)
sub_instance C category X E instance sub = record {
  values = λ a ends x there part.
      let source = restricted_has X E ends.source.0 x part in
      has_restricted X E ends.target.0 (X.value a x) (instance.values a ends x there source.0) (sub.values a ends x there source.0 source.1);
  atoms = λ c ends x atom there part is.
      instance.atoms c ends x atom there (restricted_has X E ends.object.0 x part).0 (restricted_atom (E.cell c x) (X.cell c x) atom is).1;
  equations = λ n equation x there part.
      follow_restricted X E equation.left x ∙ instance.equations n equation x there (restricted_has X E equation.object.0 x part).0
      ∙ sym (follow_restricted X E equation.right x);
}
