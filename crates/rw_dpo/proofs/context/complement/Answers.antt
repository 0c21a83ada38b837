-- The lists stand for the least complement, the only one.
use Rattle.std.proofs.Common.{◌≡◌, None, subst, sym}
use Rattle.rw_schema.specs.First.{or_else}
use Rattle.rw_schema.specs.Presentation.{signature_of}
use Rattle.rw_schema.specs.Signature.{Signature}
use Rattle.rw_complement.specs.Complement.{IsContext}
use Rattle.rw_complement.specs.Context.{context_map}
use Rattle.rw_delta.specs.ContextLists.{instance_of_context}
use Rattle.rw_redex.specs.Gluing.{identification}
use Rattle.rw_redex.specs.Instantiated.{redex_of}
use Rattle.rw_redex.specs.Obstructions.{dangling}
use Rattle.rw_dpo.specs.Complements.{IsOnlyContext}
use Rattle.rw_dpo.specs.Contexts.{IsContextOf}
use Rattle.rw_dpo.specs.inner.Site.{IsSite}
use Rattle.rw_dpo.proofs.ContextIs.{context_is, context_is_only}
use Rattle.rw_dpo.proofs.Glued.{can_be_glued}
use Rattle.rw_dpo.proofs.Results.{ok_more}
use Rattle.rw_dpo.proofs.context.complement.Goals as goal

pub context_lists-requires-clause-glued : goal.context_lists-requires-clause-glued
context_lists-requires-clause-glued g c =
    let rule = c.args.rule.now in
    let tuple = c.args.tuple.now in
    let X = g.P.Probe.instance c.args.probe.now in
    can_be_glued (g.P.Probe.signature c.args.probe.now) rule tuple X c.known.ensures
    (subst (λ (C : Signature). or_else (identification rule tuple) (dangling C rule tuple X) ≡ None) (sym c.requires.probe) c.requires.gluing)

pub returns-clause-context : goal.returns-clause-context
returns-clause-context g c =
    let C : Signature = signature_of c.args.schema.now in
    let rule = c.args.rule.now in
    let tuple = c.args.tuple.now in
    let X = g.P.Probe.instance c.args.probe.now in
    let site : IsSite C rule tuple X = subst (λ (C : Signature). IsSite C rule tuple X) c.requires.probe c.known.ensures in
    ok_more c.context_lists.result (IsContextOf C rule tuple X c.args.next.now)
    (λ context. IsContext C (redex_of rule tuple X) (instance_of_context C X context) (context_map (redex_of rule tuple X)))
    (λ context lists. context_is C rule tuple X c.args.next.now context site (can_be_glued C rule tuple X site c.requires.gluing) lists)
    c.context_lists.ensures

pub returns-clause-only : goal.returns-clause-only
returns-clause-only g c =
    let C : Signature = signature_of c.args.schema.now in
    let rule = c.args.rule.now in
    let tuple = c.args.tuple.now in
    let X = g.P.Probe.instance c.args.probe.now in
    let site : IsSite C rule tuple X = subst (λ (C : Signature). IsSite C rule tuple X) c.requires.probe c.known.ensures in
    ok_more c.context_lists.result (IsContextOf C rule tuple X c.args.next.now)
    (λ context. IsOnlyContext C (redex_of rule tuple X) (instance_of_context C X context) (context_map (redex_of rule tuple X)))
    (λ context lists. context_is_only C rule tuple X c.args.next.now context site (can_be_glued C rule tuple X site c.requires.gluing) lists)
    c.context_lists.ensures
