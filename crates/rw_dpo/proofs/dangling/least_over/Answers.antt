-- The walk over the preimage of the name finds the least name that leads to it.
use Rattle.std.proofs.Common.{◌∙◌, ℕ, List, Option, find, not, sym, ap, subst}
use Rattle.rw_schema.specs.Presentation.{ends_of_arrow}
use Rattle.rw_spec.specs.Instance.{Has}
use Rattle.rw_spec.proofs.Signatures.{target_is}
use Rattle.rw_columns.specs.Columned.{preimage_of}
use Rattle.rw_redex.specs.Matched.{is_matched}
use Rattle.rw_dpo.proofs.Dangles.{find_kept, find_walked}
use Rattle.rw_dpo.proofs.Sites.{left_there}
use Rattle.rw_dpo.proofs.dangling.least_over.Goals as goal

pub returns-then-is_kept : goal.returns-then-is_kept
returns-then-is_kept g c =
    sym (find_kept c.args.rule.now c.args.tuple.now (g.P.Probe.instance c.args.probe.now) c.args.arrow.0 (ends_of_arrow c.args.ends.now) c.args.part (sym c.if-is_kept.ensures))

pub preimage-requires-clause-name : goal.preimage-requires-clause-name
preimage-requires-clause-name g c =
    let C = g.P.Probe.signature c.args.probe.now in
    let X = g.P.Probe.instance c.args.probe.now in
    let ends = ends_of_arrow c.args.ends.now in
    let there : Has X ends.target.0 c.name_of_left-name.result =
    subst (Has X ends.target.0) (sym c.name_of_left-name.ensures)
    (left_there C c.args.rule.now c.args.tuple.now X ends.target.0 c.args.part c.requires.site c.requires.arrow.target_known c.requires.part) in
    subst (λ (object : ℕ). Has X object c.name_of_left-name.result) (sym (target_is C c.args.arrow.0 ends c.requires.arrow.is)) there

pub returns : goal.returns
returns g c =
    let C = g.P.Probe.signature c.args.probe.now in
    let X = g.P.Probe.instance c.args.probe.now in
    let rule = c.args.rule.now in
    let tuple = c.args.tuple.now in
    let ends = ends_of_arrow c.args.ends.now in
    let outside : List ℕ → Option ℕ = find (λ name. not (is_matched rule tuple ends.source.0 name)) in
    c.first_outside.ensures ∙ ap outside c.preimage.ensures ∙ ap (λ (name : ℕ). outside (preimage_of C X c.args.arrow.0 name)) c.name_of_left-name.ensures
    ∙ find_walked C rule tuple X c.args.arrow.0 ends c.args.part c.requires.arrow.is (sym c.if-is_kept.ensures)
