-- A rule at a match is one that a single pushout can be asked of.
use Rattle.std.proofs.Common.{◌≡◌, ℕ, true, List, length}
use Rattle.rw_schema.specs.Signature.{Signature}
use Rattle.rw_spec.specs.Instance.{Instance}
use Rattle.rw_terms.specs.declared.code.OpCode.{OpCode}
use Rattle.rw_rule.specs.Images.{is_injective}
use Rattle.rw_rule.specs.RuleLists.{RuleLists}
use Rattle.rw_complement.specs.Redex.{IsRedex}
use Rattle.rw_redex.specs.Instantiated.{redex_of}
use Rattle.rw_redex.proofs.Instantiated.{redex_is}
use Rattle.rw_redex.proofs.Right.{keep_to_right, right_instance}
use Rattle.rw_redex.proofs.RuleKnown.{IsKnown}
use Rattle.rw_redex.proofs.SetKinds.{IsMet}
use Rattle.rw_partial.specs.SinglePushout.{IsApplied}
use Rattle.rw_single.specs.Instantiated.{applied_of}

-- what is kept, the host and the right side are instances, with natural maps between them
pub applied_is : (C : Signature) (codes : List OpCode) (rule : RuleLists) (tuple : List ℕ) (X : Instance) → IsKnown C (length codes) rule
    → is_injective rule.keep rule.l ≡ true → IsMet C rule tuple X → IsApplied C (applied_of codes rule tuple X)
applied_is C codes rule tuple X known apart met =
    let redex : IsRedex C (redex_of rule tuple X) = redex_is C met.category rule known.span apart tuple X met.host met.natural in
    record {
      keep = redex.keep;
      host = met.host;
      right = right_instance C codes rule tuple X known met;
      l = redex.l.natural;
      r = keep_to_right C codes rule tuple X (length codes) known;
      m = redex.m;
      injective = redex.injective;
    }
