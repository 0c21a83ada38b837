-- What holds at each match of a double-pushout rule.
use Rattle.std.proofs.Common.{◌≡◌, List, length, true, Option, Some, None, refl}
use Rattle.rw_schema.specs.First.{or_else}
use Rattle.rw_schema.specs.Signature.{Signature, IsCategory}
use Rattle.rw_schema.proofs.Firsts.{or_else_none}
use Rattle.rw_terms.specs.declared.code.OpCode.{OpCode}
use Rattle.rw_rule.specs.Images.{is_injective}
use Rattle.rw_rule.specs.RuleFaults.{IsRuleOver, is_apart}
use Rattle.rw_rule.specs.RuleLists.{RuleLists}
use Rattle.rw_rule.specs.declared.kind.RuleKind.TheVariants.{Dpo}
use Rattle.rw_rule.specs.declared.refusal.Refusal.{Refusal}
use Rattle.rw_spec.specs.Redex.{Redex}
use Rattle.rw_complement.specs.Context.{context_of, context_map}
use Rattle.rw_complement.specs.Redex.{IsRedex}
use Rattle.rw_complement.proofs.Least.{context_is_least}
use Rattle.rw_redex.specs.Gluing.{identification}
use Rattle.rw_redex.specs.Instantiated.{redex_of}
use Rattle.rw_redex.specs.Laws.{GluingDecides, VerdictsAgree}
use Rattle.rw_redex.specs.Obstructions.{dangling}
use Rattle.rw_redex.proofs.Gluing.{can_be_glued_at, complement_unobstructed}
use Rattle.rw_redex.proofs.Instantiated.{redex_is}
use Rattle.rw_redex.proofs.Only.{only_step}
use Rattle.rw_redex.proofs.RuleKnown.{IsKnown, rule_known}
use Rattle.rw_redex.proofs.SetKinds.{IsMet, met_by_match}
use Rattle.rw_redex.proofs.Verdicts.{not_obstructed, only_obstruction}

-- the map from the kept to the left pattern of a double-pushout rule is injective
pub dpo_injective : (rule : RuleLists) → is_apart rule ≡ true → rule.kind ≡ Dpo → is_injective rule.keep rule.l ≡ true
dpo_injective rule apart dpo = rw dpo at apart

-- where neither of two is there, neither is the first of them
none_first : (first second : Option Refusal) (refusal : Refusal) → first ≡ None → second ≡ None → or_else first second ≡ Some refusal → ⊥
none_first first second refusal one other found =
    let both : or_else first second ≡ None = rw (one, other) refl in
    cc

module _ (C : Signature) (category : IsCategory C) (codes : List OpCode) (rule : RuleLists) (over : IsRuleOver C (length codes) rule) (dpo : rule.kind ≡ Dpo) where
  known : IsKnown C (length codes) rule
  known = rule_known C (length codes) rule over

  apart : is_injective rule.keep rule.l ≡ true
  apart = dpo_injective rule (rule_known C (length codes) rule over).apart dpo

  -- a match has a context, or there is no complement
  pub gluing_decides : GluingDecides C rule
  gluing_decides = λ X tuple host matched.
      let met : IsMet C rule tuple X = met_by_match C rule tuple X category host over.parts.goal.left matched in
      let R : Redex = redex_of rule tuple X in
      let redex : IsRedex C R = redex_is C category rule known.span apart tuple X host met.natural in
      record {
        context = λ none.
            let free = or_else_none (identification rule tuple) (dangling C rule tuple X) none in
            (context_of C R, context_map R, context_is_least C category R redex (can_be_glued_at C category rule known.span tuple X free.0 free.1));
        nowhere = λ refusal found D k e complement.
            let free = complement_unobstructed C category rule known.span tuple X redex D k e complement in
            none_first (identification rule tuple) (dangling C rule tuple X) refusal free.0 free.1 found;
      }

  -- a match has one verdict at most
  pub verdicts_agree : VerdictsAgree C codes rule
  verdicts_agree = λ X next tuple host matched.
      let met : IsMet C rule tuple X = met_by_match C rule tuple X category host over.parts.goal.left matched in
      record {
        step = only_step C codes rule X next tuple known met;
        obstruction = only_obstruction C codes rule tuple X next known apart met;
        either = not_obstructed C codes rule tuple X next known apart met;
      }
