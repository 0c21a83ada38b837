-- The rule at its match is a site.
use Rattle.std.proofs.Common.{subst, sym}
use Rattle.rw_schema.specs.Presentation.{signature_of}
use Rattle.rw_schema.specs.Signature.{Signature}
use Rattle.rw_spec.specs.Instance.{IsInstance}
use Rattle.rw_dpo.specs.inner.Site.{IsSite}
use Rattle.rw_dpo.proofs.Sites.{site_is}
use Rattle.rw_dpo.proofs.site.known.Goals as goal

pub returns : goal.returns
returns g c =
    let X = g.P.Probe.instance c.args.probe.now in
    let host : IsInstance (signature_of c.args.schema.now) X = subst (λ (C : Signature). IsInstance C X) c.requires.probe c.known.ensures.instance in
    subst (λ (C : Signature). IsSite C c.args.rule.now c.args.tuple.now X) (sym c.requires.probe)
    (site_is (signature_of c.args.schema.now) c.requires.rule.0 c.args.rule.now c.args.tuple.now X c.arrow_list-arrows.ensures.category host c.known.ensures.ascend
    c.requires.rule.1 c.requires.kind c.requires.tuple)
