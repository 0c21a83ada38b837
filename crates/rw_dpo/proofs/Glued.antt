-- Where the left half of a rule at a match can be glued there is a complement, and nowhere else.
use Rattle.std.proofs.Common.{◌≡◌, ℕ, List, Option, Some, None, refl, sym}
use Rattle.std.specs.Prelude.{MatchOption}
use Rattle.rw_schema.specs.First.{or_else}
use Rattle.rw_schema.specs.Signature.{Signature}
use Rattle.rw_schema.proofs.Firsts.{or_else_none}
use Rattle.rw_spec.specs.Instance.{Instance}
use Rattle.rw_complement.specs.Complement.{identity}
use Rattle.rw_complement.specs.Context.{context_of, context_map}
use Rattle.rw_complement.specs.Redex.{CanBeGlued}
use Rattle.rw_complement.proofs.Complement.{context_is_complement}
use Rattle.rw_redex.specs.Gluing.{identification}
use Rattle.rw_redex.specs.Instantiated.{redex_of}
use Rattle.rw_redex.specs.Obstructions.{dangling}
use Rattle.rw_redex.proofs.Gluing.{can_be_glued_at, complement_unobstructed}
use Rattle.rw_rule.specs.RuleLists.{RuleLists}
use Rattle.rw_rule.specs.declared.refusal.Refusal.{Refusal}
use Rattle.rw_dpo.specs.Complements.{HasComplement}
use Rattle.rw_dpo.specs.inner.Site.{IsSite}
use Rattle.rw_dpo.proofs.Sites.{site_redex}

-- where nothing is identified and no arrow dangles, the gluing condition holds
pub can_be_glued : (C : Signature) (rule : RuleLists) (tuple : List ℕ) (X : Instance) → IsSite C rule tuple X
    → or_else (identification rule tuple) (dangling C rule tuple X) ≡ None → CanBeGlued C (redex_of rule tuple X)
can_be_glued C rule tuple X site none =
    let both = or_else_none (identification rule tuple) (dangling C rule tuple X) none in
    can_be_glued_at C site.category rule site.span tuple X both.0 both.1

-- and there is a complement
has_complement : (C : Signature) (rule : RuleLists) (tuple : List ℕ) (X : Instance) → IsSite C rule tuple X
    → or_else (identification rule tuple) (dangling C rule tuple X) ≡ None → HasComplement C (redex_of rule tuple X)
has_complement C rule tuple X site none =
    let R = redex_of rule tuple X in
    record {
      context = context_of C R;
      k = context_map R;
      e = identity;
      complement = context_is_complement C site.category R (site_redex C rule tuple X site) (can_be_glued C rule tuple X site none);
    }

-- where there is a refusal there is none
has_none : (C : Signature) (rule : RuleLists) (tuple : List ℕ) (X : Instance) (refusal : Refusal) → IsSite C rule tuple X
    → or_else (identification rule tuple) (dangling C rule tuple X) ≡ Some refusal → HasComplement C (redex_of rule tuple X) → ⊥
has_none C rule tuple X refusal site is has =
    let both = complement_unobstructed C site.category rule site.span tuple X (site_redex C rule tuple X site) has.context has.k has.e has.complement in
    let none : or_else (identification rule tuple) (dangling C rule tuple X) ≡ None = rw (both.0, both.1) refl in
    cc

-- the answer tells whether there is a complement
pub complement_told : (C : Signature) (rule : RuleLists) (tuple : List ℕ) (X : Instance) (answer : Option Refusal) → IsSite C rule tuple X
    → answer ≡ or_else (identification rule tuple) (dangling C rule tuple X)
    → MatchOption answer (HasComplement C (redex_of rule tuple X)) (λ refusal. HasComplement C (redex_of rule tuple X) → ⊥)
complement_told C rule tuple X None site is = has_complement C rule tuple X site (sym is)
complement_told C rule tuple X (Some refusal) site is = has_none C rule tuple X refusal site (sym is)
