-- The names of the parts that give up an atom, in order, are those at which the cell is made blank.
use Rattle.std.proofs.Common.{ℕ, List, Contains, subst, sym}
use Rattle.rw_delta.specs.Deltas.{IsListOf}
use Rattle.rw_schema.specs.Presentation.{ends_of_attribute}
use Rattle.rw_spec.proofs.Signatures.{holder_is}
use Rattle.rw_dpo.proofs.BlankNames.{blank_are}
use Rattle.rw_dpo.proofs.Sites.{kept_at, kept_there}
use Rattle.rw_dpo.proofs.blank.blank_names.Goals as goal

pub names_given_up-requires-clause-kept : goal.names_given_up-requires-clause-kept
names_given_up-requires-clause-kept g c =
    let C = g.P.Probe.signature c.args.probe.now in
    kept_at C c.args.rule.now c.args.tuple.now (g.P.Probe.instance c.args.probe.now) c.args.ends.now.object.0 c.requires.site
    (c.requires.site.category.holders c.args.attribute.0 (ends_of_attribute c.args.ends.now) c.requires.attribute)

pub names_given_up-requires-clause-names : goal.names_given_up-requires-clause-names
names_given_up-requires-clause-names g c = λ part within.
    let C = g.P.Probe.signature c.args.probe.now in
    kept_there C c.args.rule.now c.args.tuple.now (g.P.Probe.instance c.args.probe.now) c.args.ends.now.object.0 part c.requires.site
    (c.requires.site.category.holders c.args.attribute.0 (ends_of_attribute c.args.ends.now) c.requires.attribute) within

pub names_given_up-requires-clause-holder : goal.names_given_up-requires-clause-holder
names_given_up-requires-clause-holder g c =
    sym (holder_is (g.P.Probe.signature c.args.probe.now) c.args.attribute.0 (ends_of_attribute c.args.ends.now) c.requires.attribute)

pub returns : goal.returns
returns g c =
    blank_are (g.P.Probe.signature c.args.probe.now) c.args.rule.now c.args.tuple.now (g.P.Probe.instance c.args.probe.now) c.args.attribute.0
    (ends_of_attribute c.args.ends.now) c.requires.site c.requires.attribute c.put_in_order.new.names.items c.requires.glued
    (subst (λ (names : List ℕ). IsListOf (Contains names) c.put_in_order.new.names.items) c.in_ok-names.ensures c.put_in_order.ensures)
