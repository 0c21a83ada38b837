-- What the pieces make is a rule unless arrows lead round a cycle.
use Rattle.std.proofs.Common.{◌∙◌, sym}
use Rattle.rw_schema.specs.Presentation.{signature_of}
use Rattle.rw_schema.specs.Signature.{Signature}
use Rattle.rw_terms.specs.OpEntries.{entries}
use Rattle.rw_rule.specs.Sets.{value_missing}
use Rattle.rw_doc.proofs.Checked.{none_is}
use Rattle.rw_docrule.specs.Members.{members_of_rule}
use Rattle.rw_docrule.specs.Reads.{body_read, head_of_rule}
use Rattle.rw_docrule.specs.Rules.{Body, rule_with}
use Rattle.rw_docrule.specs.Heads.{RuleHead}
use Rattle.rw_docrule.proofs.SoundRules.{rule_over, rule_sound}
use Rattle.rw_docrule.proofs.pieces.read_pieces.Goals as goal

pub returns-clause-known : goal.returns-clause-known
returns-clause-known g c =
    let C : Signature = signature_of c.args.schema.now in
    let head : RuleHead = head_of_rule c.in_ok-head.head in
    let body : Body = body_read c.in_ok-body.body in
    rw c.parts_of-parts.ensures (record {
      parts = rule_over C head body c.in_ok-body.ensures.over c.in_ok-head.ensures.long;
      few = c.in_ok-body.ensures.over.few;
      sound = rule_sound c.args.schema.now (entries c.args.ops.now) c.args.place (members_of_rule c.args.members.now) head body c.in_ok-body.ensures.gives
          (none_is (value_missing C (rule_with head body)) (rw c.parts_of-parts.ensures at (sym c.has_values.ensures ∙ c.if-not-has_values.false)));
    })
