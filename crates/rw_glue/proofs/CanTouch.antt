-- The context of a double pushout has a name of the host for each kept part.
use Rattle.std.proofs.Common.{◌≡◌, ◌∙◌, ◌<◌, ℕ, All, Contains, IsSome, List, [], Option, Some, get_or, length, map, refl, sym, ap, subst, zero-add}
use Rattle.std.specs.List.{range_with_len}
use Rattle.std.proofs.lemmas.List.{get_or-map, length-map}
use Rattle.std.proofs.lemmas.List.FromFn.{get_or-map-range_with_len, length-map-range_with_len}
use Rattle.rw_schema.specs.RowLists.{list_at}
use Rattle.rw_schema.specs.Signature.{Signature}
use Rattle.rw_schema.proofs.Lists.{length_map_in}
use Rattle.rw_spec.specs.Instance.{Instance, Has}
use Rattle.rw_spec.proofs.Sequences.{contained_in_map}
use Rattle.rw_pattern.specs.MapFaults.{image_of}
use Rattle.rw_rule.specs.Images.{parts_of}
use Rattle.rw_rule.specs.RuleLists.{RuleLists}
use Rattle.rw_delta.specs.ContextLists.{ContextLists}
use Rattle.rw_dpo.specs.Contexts.{blank_names, kept_names, name_of_kept}
use Rattle.rw_redex.proofs.RuleKnown.{IsKnown, rule_known}
use Rattle.rw_redex.proofs.RuleMaps.{left_natural, right_is}
use Rattle.rw_redex.proofs.SetKinds.{IsMet, met_by_match}
use Rattle.rw_glue.specs.inner.Glued.{IsSite}
use Rattle.rw_glue.specs.inner.Sides.{CanTouch}

-- each name of some parts is there
all_some : (f : ℕ → ℕ) (parts : List ℕ) → All IsSome (map (λ part. Some (f part)) parts)
all_some f parts = λ k d within.
    let inside : k < length parts = subst (λ (n : ℕ). k < n) (length-map parts (λ part. Some (f part))) within in
    subst (λ (name : Option ℕ). IsSome name) (sym (get_or-map (λ part. Some (f part)) parts k 0 d inside)) refl

-- a name that is given is the one given
given_is : (first second : ℕ) → Some first ≡ Some second → first ≡ second
given_is first second same = cc

pub can_touch : (C : Signature) (rule : RuleLists) (tuple : List ℕ) (X : Instance) (context : ContextLists) → IsSite C rule tuple X context → CanTouch C X rule context
can_touch C rule tuple X context site =
    let known : IsKnown C site.can.operations rule = rule_known C site.can.operations rule site.can.over in
    let met : IsMet C rule tuple X = met_by_match C rule tuple X site.category site.host site.can.over.parts.goal.left site.can.matched in
    record {
      category = site.category;
      sizes = (right_is C rule known.span).sizes_long;
      counted = ap length site.can.is_context.of_keep ∙ length-map-range_with_len (kept_names rule tuple) 0 C.objects;
      kept =
          subst (All (All IsSome)) (sym site.can.is_context.of_keep)
          (λ k d within.
          let objects : List ℕ = range_with_len 0 C.objects in
          let inside : k < length objects = subst (λ (n : ℕ). k < n) (length-map objects (kept_names rule tuple)) within in
          subst (All IsSome) (sym (get_or-map (kept_names rule tuple) objects k 0 d inside))
          (all_some (name_of_kept rule tuple (get_or objects k 0)) (parts_of rule.keep (get_or objects k 0))));
      names = λ object x within there.
          let listed : list_at context.of_keep object ≡ kept_names rule tuple object =
          ap (λ lists. list_at lists object) site.can.is_context.of_keep ∙ get_or-map-range_with_len (kept_names rule tuple) 0 C.objects object object [] within (zero-add object) in
          let found = contained_in_map (λ part. Some (name_of_kept rule tuple object part)) (parts_of rule.keep object) (Some x)
          (subst (λ (names : List (Option ℕ)). Contains names (Some x)) listed there) in
          subst (Has X object) (given_is (name_of_kept rule tuple object found.0) x found.2)
          (met.natural.parts object (image_of rule.l object found.0) within ((left_natural C rule known.span).parts object found.0 within found.1));
      blank = ap length site.can.is_context.blank ∙ length_map_in (blank_names rule tuple X) 0 C.attributes;
    }
