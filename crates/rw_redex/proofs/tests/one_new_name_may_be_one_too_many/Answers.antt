use Rattle.std.proofs.Common.{length}
use Rattle.rw_schema.specs.Presentation.{signature_of}
use Rattle.rw_terms.specs.OpEntries.{entries}
use Rattle.rw_redex.proofs.RuleKnown.{rule_known}
use Rattle.rw_redex.proofs.tests.one_new_name_may_be_one_too_many.Goals as goal

-- the rule is over the schema
pub first_too_large-requires-clause-rule : goal.first_too_large-requires-clause-rule
first_too_large-requires-clause-rule g c =
    (rule_known (signature_of c.in_ok-schema.schema) (length (entries c.new-ops.result)) c.in_ok-rule.rule c.in_ok-rule.ensures.over).span

pub first_too_large-full-requires-clause-rule : goal.first_too_large-full-requires-clause-rule
first_too_large-full-requires-clause-rule g c =
    (rule_known (signature_of c.in_ok-schema.schema) (length (entries c.new-ops.result)) c.in_ok-rule.rule c.in_ok-rule.ensures.over).span
