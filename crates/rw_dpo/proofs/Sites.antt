-- What a rule at a match has of its objects, and that it is a redex.
use Rattle.std.proofs.Common.{◌≡◌, ◌||◌, ℕ, ◌<◌, Bool, false, true, List, Contains, length}
use Rattle.rw_schema.specs.Signature.{Signature, IsCategory}
use Rattle.rw_spec.specs.Ascending.{ascends}
use Rattle.rw_spec.specs.Instance.{Instance, IsInstance, Has}
use Rattle.rw_pattern.specs.Matches.{matches}
use Rattle.rw_pattern.specs.MapFaults.{image_of}
use Rattle.rw_pattern.specs.PatternLists.{map_of_tuple, size_of}
use Rattle.rw_pattern.proofs.Maps.{images_long}
use Rattle.rw_pattern.proofs.PartNames.{has_part}
use Rattle.rw_rule.specs.Images.{is_injective}
use Rattle.rw_rule.specs.RuleFaults.{IsRuleOver, is_sqpo}
use Rattle.rw_rule.specs.RuleLists.{RuleLists}
use Rattle.rw_rule.specs.declared.kind.RuleKind.{RuleKind}
use Rattle.rw_complement.specs.Redex.{IsRedex}
use Rattle.rw_redex.specs.Instantiated.{redex_of}
use Rattle.rw_redex.specs.RuleParts.{HasObject}
use Rattle.rw_redex.proofs.Instantiated.{redex_is}
use Rattle.rw_redex.proofs.PartNames.{match_long}
use Rattle.rw_redex.proofs.RuleKnown.{IsKnown, rule_known}
use Rattle.rw_redex.proofs.RuleMaps.{keep_known, left_is, left_natural, left_shape}
use Rattle.rw_redex.proofs.RuleParts.{object_known}
use Rattle.rw_redex.proofs.SetKinds.{match_of}
use Rattle.rw_dpo.specs.Contexts.{name_of_kept}
use Rattle.rw_dpo.specs.inner.Site.{HasKept, IsSite}

-- a rule of a kind that asks for it has an injective map to its left side
injective_is : (kind : RuleKind) (injective : Bool) → is_sqpo kind ≡ false → (is_sqpo kind || injective) ≡ true → injective ≡ true
injective_is kind injective is apart = rw is at apart

-- such a rule at a match of its left side
pub site_is : (C : Signature) (ops : ℕ) (rule : RuleLists) (tuple : List ℕ) (X : Instance) → IsCategory C → IsInstance C X
    → ((object : ℕ) → ascends (X.names object) ≡ true) → IsRuleOver C ops rule → is_sqpo rule.kind ≡ false
    → Contains (matches C rule.goal.left rule.goal.monic X) tuple → IsSite C rule tuple X
site_is C ops rule tuple X category host up over kind matched =
    let known : IsKnown C ops rule = rule_known C ops rule over in
    record {
      category = category;
      span = known.span;
      injective = injective_is rule.kind (is_injective rule.keep rule.l) kind known.apart;
      long = match_long C rule.goal.left rule.goal.monic X tuple matched;
      host = host;
      ascend = up;
      natural = (match_of C rule tuple X over.parts.goal.left matched).natural;
    }

-- it is a redex
pub site_redex : (C : Signature) (rule : RuleLists) (tuple : List ℕ) (X : Instance) → IsSite C rule tuple X → IsRedex C (redex_of rule tuple X)
site_redex C rule tuple X site = redex_is C site.category rule site.span site.injective tuple X site.host site.natural

-- each object has kept parts
pub kept_at : (C : Signature) (rule : RuleLists) (tuple : List ℕ) (X : Instance) (object : ℕ) → IsSite C rule tuple X → object < C.objects → HasKept rule tuple object
kept_at C rule tuple X object site known =
    let keep = keep_known C rule object site.span known in
    record {
      known = object_known C rule object site.span known;
      keep = keep;
      images = images_long rule.keep rule.l object (left_shape C rule site.span) keep;
      long = site.long;
    }

-- the name of a left part is there
pub left_there : (C : Signature) (rule : RuleLists) (tuple : List ℕ) (X : Instance) (object part : ℕ) → IsSite C rule tuple X → object < C.objects
    → part < size_of rule.goal.left object → Has X object (map_of_tuple rule.goal.left tuple object part)
left_there C rule tuple X object part site known within = site.natural.parts object part known (has_part rule.goal.left object part within)

-- and so is that of a kept part
pub kept_there : (C : Signature) (rule : RuleLists) (tuple : List ℕ) (X : Instance) (object part : ℕ) → IsSite C rule tuple X → object < C.objects
    → part < size_of rule.keep object → Has X object (name_of_kept rule tuple object part)
kept_there C rule tuple X object part site known within =
    let image = (left_natural C rule site.span).parts object part known (has_part rule.keep object part within) in
    site.natural.parts object (image_of rule.l object part) known image

-- each object with a size has what a step reads of it
pub site_object : (C : Signature) (rule : RuleLists) (tuple : List ℕ) (X : Instance) (object : ℕ) → IsSite C rule tuple X → object < length rule.goal.left.sizes → HasObject rule object
site_object C rule tuple X object site within = object_known C rule object site.span (rw (left_is C rule site.span).sizes_long at within)
