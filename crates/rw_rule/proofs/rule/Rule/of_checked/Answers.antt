-- Lists without a fault are built to a rule.
use Rattle.std.proofs.Common.{rules, ℕ, None, length}
use Rattle.rw_schema.specs.Presentation.{signature_of}
use Rattle.rw_schema.specs.Signature.{Signature}
use Rattle.rw_terms.specs.OpEntries.{entries}
use Rattle.rw_rule.specs.RuleFaults.{HasFault}
use Rattle.rw_rule.specs.RuleLists.{RuleLists}
use Rattle.rw_rule.specs.RuleParts.{rule_of_parts}
use Rattle.rw_rule.proofs.Built.{built_over}
use Rattle.rw_rule.proofs.rule.Rule.of_checked.Goals as goal

pub returns-clause-over : goal.returns-clause-over
returns-clause-over g c =
    let C : Signature = signature_of c.args.schema.now in
    let ops : ℕ = length (entries c.args.ops.now) in
    let lists : RuleLists = rule_of_parts c.args.parts in
    let sound : HasFault C ops lists None = search rules in
    rw c.of_parts.ensures (built_over C ops lists c.requires.over sound)
