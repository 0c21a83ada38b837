-- The lists that `complement` makes stand for the context.
use Rattle.std.proofs.Common.{◌≡◌, ◌∙◌, ℕ, List, [], ◌∷◌, refl, sym, ap, subst}
use Rattle.rw_schema.specs.declared.ids.ArrowId.{ArrowId}
use Rattle.rw_schema.specs.Signature.{Signature, IsCategory, IsPath}
use Rattle.rw_spec.specs.Instance.{Instance, IsInstance, Has, follow}
use Rattle.rw_rule.specs.RuleLists.{RuleLists}
use Rattle.rw_complement.specs.Complement.{IsContext}
use Rattle.rw_complement.specs.Context.{context_of, context_map}
use Rattle.rw_spec.specs.Redex.{Redex}
use Rattle.rw_complement.specs.Redex.{CanBeGlued, IsRedex}
use Rattle.rw_spec.specs.Same.{AreSame}
use Rattle.rw_complement.proofs.Complement.{context_is_complement}
use Rattle.rw_complement.proofs.Least.{context_is_least, only_context}
use Rattle.rw_delta.specs.ContextLists.{ContextLists, instance_of_context}
use Rattle.rw_redex.specs.Instantiated.{redex_of}
use Rattle.rw_dpo.specs.Complements.{IsOnlyContext}
use Rattle.rw_dpo.specs.Contexts.{IsContextOf}
use Rattle.rw_dpo.specs.inner.Site.{IsSite}
use Rattle.rw_dpo.proofs.ContextSame.{same_context, lists_are_context}
use Rattle.rw_dpo.proofs.Sites.{site_redex}

-- a path leads to the same name in instances that are one
follow_same : (C : Signature) → IsCategory C → (X Y : Instance) → AreSame C X Y → IsInstance C X → (path : List ArrowId) (from to x : ℕ) → IsPath C from path to → Has X from x
    → follow Y path x ≡ follow X path x
follow_same C category X Y same is [] from to x leads has = refl
follow_same C category X Y same is (arrow ∷ path) from to x (ends, there, leaves, rest) has =
    let source : Has X ends.source.0 x = subst (λ (object : ℕ). Has X object x) (sym leaves) has in
    ap (follow Y path) (sym (same.values arrow.0 ends x there source))
    ∙ follow_same C category X Y same is path ends.target.0 to (X.value arrow.0 x) rest (is.values arrow.0 ends x there source)

-- what is one with an instance is one
pub instance_of_same : (C : Signature) → IsCategory C → (X Y : Instance) → AreSame C X Y → IsInstance C X → IsInstance C Y
instance_of_same C category X Y same is = record {
  values = λ a ends x there has.
      let here : Has X ends.source.0 x = (same.names ends.source.0 x (category.sources a ends there)).1 has in
      subst (Has Y ends.target.0) (same.values a ends x there here)
      ((same.names ends.target.0 (X.value a x) (category.targets a ends there)).0 (is.values a ends x there here));
  atoms = λ c ends x atom there has holds.
      let here : Has X ends.object.0 x = (same.names ends.object.0 x (category.holders c ends there)).1 has in
      is.atoms c ends x atom there here (same.cells c ends x there here ∙ holds);
  equations = λ e equation x there has.
      let object : ℕ = equation.object.0 in
      let here : Has X object x = (same.names object x (category.starts e equation there)).1 has in
      let paths = category.paths e equation there in
      follow_same C category X Y same is equation.left object paths.0 x paths.1 here
      ∙ is.equations e equation x there here
      ∙ sym (follow_same C category X Y same is equation.right object paths.0 x paths.2 here);
}

-- where the left half of a rule at a match can be glued, the lists stand for the least complement under names of the host
pub context_is : (C : Signature) (rule : RuleLists) (tuple : List ℕ) (X : Instance) (given : List ℕ) (context : ContextLists) → IsSite C rule tuple X
    → CanBeGlued C (redex_of rule tuple X) → IsContextOf C rule tuple X given context
    → IsContext C (redex_of rule tuple X) (instance_of_context C X context) (context_map (redex_of rule tuple X))
context_is C rule tuple X given context site can lists =
    let R : Redex = redex_of rule tuple X in
    let redex : IsRedex C R = site_redex C rule tuple X site in
    let same = lists_are_context C site.category rule tuple X given context lists in
    same_context C site.category R (context_of C R) (instance_of_context C X context) (context_map R) same
    (instance_of_same C site.category (context_of C R) (instance_of_context C X context) same (context_is_complement C site.category R redex can).instance)
    (context_is_least C site.category R redex can)

-- and for the only one
pub context_is_only : (C : Signature) (rule : RuleLists) (tuple : List ℕ) (X : Instance) (given : List ℕ) (context : ContextLists) → IsSite C rule tuple X
    → CanBeGlued C (redex_of rule tuple X) → IsContextOf C rule tuple X given context
    → IsOnlyContext C (redex_of rule tuple X) (instance_of_context C X context) (context_map (redex_of rule tuple X))
context_is_only C rule tuple X given context site can lists =
    let R : Redex = redex_of rule tuple X in
    λ other other_k is.
    only_context C site.category R (instance_of_context C X context) other (context_map R) other_k
    (context_is C rule tuple X given context site can lists) is
