-- The value of a set goes behind the others.
use Rattle.std.proofs.Common.{List, Option, ◌∙◌}
use Rattle.rw_schema.specs.declared.atom.Atom.{Atom}
use Rattle.rw_terms.specs.declared.code.OpCode.{OpCode}
use Rattle.rw_terms.specs.OpEntries.{entries}
use Rattle.rw_terms.specs.OpTables.{codes_of}
use Rattle.rw_terms.specs.Terms.{value_of}
use Rattle.rw_rule.specs.declared.set.SetCell.{SetCell}
use Rattle.rw_redex.proofs.Mapped.{mapped_more}
use Rattle.rw_redex.proofs.values.set_values.Goals as goal

pub loop-set-preserved : goal.loop-set-preserved
loop-set-preserved g c =
    let codes : List OpCode = codes_of (entries c.args.ops.now) in
    let value : SetCell → Option Atom = λ set. value_of codes c.args.valuation.now set.term in
    c.in_ok-push.ensures.items
    ∙ mapped_more value c.deref-set-items.result.now c.loop-set.set-index c.set-item.result
    c.loop-set.values.items c.in_ok-eval.field-0 c.loop-set-test.true c.set-item.is c.loop-set.invariant c.in_ok-eval.ensures
