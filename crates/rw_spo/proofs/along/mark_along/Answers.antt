-- The arrow is followed back in the host, or in the right side.
use Rattle.std.proofs.Common.{◌≡◌, ℕ, List, false, Contains, sym, subst}
use Rattle.std.proofs.lemmas.Result.{on_ok_weaker}
use Rattle.rw_schema.specs.Presentation.{ends_of_arrow}
use Rattle.rw_columns.specs.Columned.{preimage_of}
use Rattle.rw_spo.specs.inner.Removal.{part_at}
use Rattle.rw_spo.proofs.Sources.{in_row_followed, target_has, walked_followed, walked_goes}
use Rattle.rw_spo.proofs.along.mark_along.Goals as goal

pub returns-then-element-clause-followed : goal.returns-then-element-clause-followed
returns-then-element-clause-followed g c =
    on_ok_weaker c.mark_in_row.result (λ all enters. in_row_followed (g.P.Probe.signature c.args.probe.now) c.args.rule.now c.args.tuple.now (g.P.Probe.instance c.args.probe.now)
    c.requires.site c.args.element c.requires.goes c.args.arrow.0 (ends_of_arrow c.args.ends.now) c.requires.arrow.is c.mark_in_row.new.removed c.if-element.true all)
    c.mark_in_row.ensures.there

pub preimage-walk-requires-clause-name : goal.preimage-walk-requires-clause-name
preimage-walk-requires-clause-name g c =
    target_has (g.P.Probe.signature c.args.probe.now) c.args.rule.now c.args.tuple.now (g.P.Probe.instance c.args.probe.now)
    c.requires.site c.args.element c.requires.goes c.args.arrow.0 (ends_of_arrow c.args.ends.now) c.requires.arrow.is c.if-element.false c.if-ends-element.false

pub mark_walk-requires : goal.mark_walk-requires
mark_walk-requires g c = λ x walked.
    walked_goes (g.P.Probe.signature c.args.probe.now) c.args.rule.now c.args.tuple.now (g.P.Probe.instance c.args.probe.now)
    c.requires.site c.args.element c.requires.goes c.args.arrow.0 (ends_of_arrow c.args.ends.now) c.requires.arrow.is c.if-element.false c.requires.part c.if-ends-element.false
    x (subst (λ (names : List ℕ). Contains names x) c.preimage-walk.ensures walked)

pub returns-clause-followed : goal.returns-clause-followed
returns-clause-followed g c =
    on_ok_weaker c.mark_walk.result (λ there enters. walked_followed (g.P.Probe.signature c.args.probe.now) c.args.rule.now c.args.tuple.now (g.P.Probe.instance c.args.probe.now)
    c.requires.site c.args.element c.requires.goes c.args.arrow.0 (ends_of_arrow c.args.ends.now) c.requires.arrow.is c.mark_walk.new.removed c.if-element.false
    (λ x walked. there x (subst (λ (names : List ℕ). Contains names x) (sym c.preimage-walk.ensures) walked)))
    c.mark_walk.ensures.there
