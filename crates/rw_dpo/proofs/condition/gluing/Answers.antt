-- The gluing condition holds exactly where there is a complement.
use Rattle.std.proofs.Common.{◌∙◌, Option, Some, ap, subst}
use Rattle.rw_schema.specs.First.{or_else}
use Rattle.rw_schema.specs.Presentation.{signature_of}
use Rattle.rw_schema.specs.Signature.{Signature}
use Rattle.rw_redex.specs.Obstructions.{dangling}
use Rattle.rw_rule.specs.declared.refusal.Refusal.{Refusal}
use Rattle.rw_dpo.specs.inner.Site.{IsSite}
use Rattle.rw_dpo.proofs.Sites.{site_object}
use Rattle.rw_dpo.proofs.Glued.{complement_told}
use Rattle.rw_dpo.proofs.condition.gluing.Goals as goal

pub first_identification-requires-clause-objects : goal.first_identification-requires-clause-objects
first_identification-requires-clause-objects g c = λ object within.
    site_object (g.P.Probe.signature c.args.probe.now) c.args.rule.now c.args.tuple.now (g.P.Probe.instance c.args.probe.now) object c.known.ensures within

pub returns-in-Some-clause-complement : goal.returns-in-Some-clause-complement
returns-in-Some-clause-complement g c =
    let C : Signature = signature_of c.args.schema.now in
    let rule = c.args.rule.now in
    let tuple = c.args.tuple.now in
    let X = g.P.Probe.instance c.args.probe.now in
    let site : IsSite C rule tuple X = subst (λ (C : Signature). IsSite C rule tuple X) c.requires.probe c.known.ensures in
    complement_told C rule tuple X (Some c.in-Some.refusal) site (ap (λ (found : Option Refusal). or_else found (dangling C rule tuple X)) c.in-Some.ensures)

pub returns-in-None-clause-complement : goal.returns-in-None-clause-complement
returns-in-None-clause-complement g c =
    let C : Signature = signature_of c.args.schema.now in
    let rule = c.args.rule.now in
    let tuple = c.args.tuple.now in
    let X = g.P.Probe.instance c.args.probe.now in
    let site : IsSite C rule tuple X = subst (λ (C : Signature). IsSite C rule tuple X) c.requires.probe c.known.ensures in
    complement_told C rule tuple X c.first_dangling.result site
    (c.first_dangling.ensures ∙ ap (λ (found : Option Refusal). or_else found (dangling C rule tuple X)) c.in-None.ensures)
