-- Lists without a fault are built to a rule.
use Rattle.std.proofs.Common.{ℕ, None, length}
use Rattle.rw_schema.specs.Presentation.{signature_of}
use Rattle.rw_schema.specs.Signature.{Signature}
use Rattle.rw_terms.specs.OpEntries.{entries}
use Rattle.rw_rule.specs.RuleFaults.{HasFault}
use Rattle.rw_rule.specs.RuleLists.{RuleLists}
use Rattle.rw_rule.specs.RuleParts.{rule_of_parts}
use Rattle.rw_rule.proofs.Built.{built_over}
use Rattle.rw_rule.proofs.rule.Rule.build.Goals as goal

pub returns-in-None-clause-over : goal.returns-in-None-clause-over
returns-in-None-clause-over g c =
    let C : Signature = signature_of c.args.schema.now in
    let ops : ℕ = length (entries c.args.ops.now) in
    let lists : RuleLists = rule_of_parts c.args.parts in
    let sound : HasFault C ops lists None = rw (c.len.ensures, c.in-None.is) at c.in_ok-fault.ensures in
    rw c.of_parts.ensures (built_over C ops lists c.requires.over sound)
