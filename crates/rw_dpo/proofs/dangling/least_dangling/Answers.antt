-- One part more is looked at.
use Rattle.std.proofs.Common.{◌∙◌, ℕ, Option, sym, ap}
use Rattle.rw_schema.specs.Presentation.{ends_of_arrow}
use Rattle.rw_dpo.specs.inner.Dangling.{lesser}
use Rattle.rw_dpo.proofs.Dangles.{find_more, find_nothing}
use Rattle.rw_dpo.proofs.dangling.least_dangling.Goals as goal

pub loop-part-init : goal.loop-part-init
loop-part-init g c =
    sym (find_nothing c.args.rule.now c.args.tuple.now (g.P.Probe.instance c.args.probe.now) c.args.arrow.0 (ends_of_arrow c.args.ends.now))

pub loop-part-preserved : goal.loop-part-preserved
loop-part-preserved g c =
    let ends = ends_of_arrow c.args.ends.now in
    c.lesser-least.ensures
    ∙ ap (λ (least : Option ℕ). lesser least c.least_over.result) c.loop-part.invariant
    ∙ ap (lesser _) c.least_over.ensures
    ∙ find_more c.args.rule.now c.args.tuple.now (g.P.Probe.instance c.args.probe.now) c.args.arrow.0 ends c.loop-part.part (c.requires.site.ascend ends.source.0)
