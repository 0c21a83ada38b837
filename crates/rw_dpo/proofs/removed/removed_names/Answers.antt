-- The names of the parts that are not kept, in order, are the removed ones.
use Rattle.std.proofs.Common.{ℕ, List, Contains, subst}
use Rattle.rw_delta.specs.Deltas.{IsListOf}
use Rattle.rw_redex.proofs.RuleParts.{object_known}
use Rattle.rw_dpo.proofs.RemovedNames.{removed_are}
use Rattle.rw_dpo.proofs.removed.removed_names.Goals as goal

pub names_of_unkept-requires-clause-object : goal.names_of_unkept-requires-clause-object
names_of_unkept-requires-clause-object g c =
    object_known (g.P.Probe.signature c.args._probe.now) c.args.rule.now c.args.object.0 c.requires.site.span c.requires.object

pub returns : goal.returns
returns g c =
    removed_are (g.P.Probe.signature c.args._probe.now) c.args.rule.now c.args.tuple.now (g.P.Probe.instance c.args._probe.now) c.args.object.0 c.put_in_order.new.names.items
    c.requires.site c.requires.object
    (subst (λ (names : List ℕ). IsListOf (Contains names) c.put_in_order.new.names.items) c.in_ok-names.ensures c.put_in_order.ensures)
