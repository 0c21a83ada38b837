-- A list that is filled is that of a sesqui-pushout rule.
use Rattle.std.proofs.Common.{◌∙◌, sym, arith, vec_len}
use Rattle.rw_rule.proofs.Built.{filled_monic}
use Rattle.rw_rule.proofs.rule.make_monic.Goals as goal

pub returns-then-is_sqpo : goal.returns-then-is_sqpo
returns-then-is_sqpo c =
    let monic = c.args.monic.now in
    c.fill.ensures.items (λ truth same. same)
    ∙ filled_monic c.args.kind monic.items (vec_len monic) (sym c.is_sqpo.ensures ∙ c.if-is_sqpo.true) (omega (arith, monic.ok.0))
