-- The lists stand for the largest fitting pair, the only one.
use Rattle.std.proofs.Common.{None, subst}
use Rattle.rw_schema.specs.Presentation.{signature_of}
use Rattle.rw_schema.specs.Signature.{Signature}
use Rattle.rw_dpo.specs.inner.Site.{IsSite}
use Rattle.rw_spo.specs.PairContexts.{applied, host_elements, right_elements}
use Rattle.rw_spo.specs.inner.Removal.{IsSettled}
use Rattle.rw_spo.proofs.PairIs.{pair_is}
use Rattle.rw_spo.proofs.Valued.{largest_valued}
use Rattle.rw_spo.proofs.pair.largest_pair.Goals as goal

pub returns : goal.returns
returns g c =
    let rule = c.args.rule.now in
    let tuple = c.args.tuple.now in
    let X = g.P.Probe.instance c.args.probe.now in
    let site : IsSite (signature_of c.args.schema.now) rule tuple X = subst (λ (C : Signature). IsSite C rule tuple X) c.requires.probe c.known.ensures in
    let settled : IsSettled (signature_of c.args.schema.now) rule tuple (applied rule tuple X) c.in_ok-removed.removed =
    subst (λ (C : Signature). IsSettled C rule tuple (applied rule tuple X) c.in_ok-removed.removed) c.requires.probe c.in_ok-removed.ensures in
    let is = pair_is (signature_of c.args.schema.now) rule tuple X site c.in_ok-removed.removed c.args.next.now c.in_ok-context.context c.in_ok-context.ensures settled in
    record {
      lists = is.0;
      largest = is.1;
      valued = λ values. largest_valued (signature_of c.args.schema.now) rule tuple X (λ attribute part. None) values
          (host_elements (signature_of c.args.schema.now) c.in_ok-context.context) (right_elements c.in_ok-context.context) is.1;
      only = is.2;
    }
