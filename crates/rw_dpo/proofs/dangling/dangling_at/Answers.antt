-- The least such name is the place of the refusal.
use Rattle.std.proofs.Common.{◌∙◌, ℕ, Bool, option_map, sym, ap}
use Rattle.rw_schema.specs.Presentation.{ends_of_arrow}
use Rattle.rw_redex.specs.Obstructions.{dangles}
use Rattle.rw_rule.specs.declared.refusal.Refusal.{Refusal}
use Rattle.rw_rule.specs.declared.refusal.Refusal.TheVariants.{Dangling}
use Rattle.rw_dpo.proofs.Least.{first_found}
use Rattle.rw_dpo.proofs.dangling.dangling_at.Goals as goal

pub returns-in_err-part : goal.returns-in_err-part
returns-in_err-part g c =
    let X = g.P.Probe.instance c.args.probe.now in
    let ends = ends_of_arrow c.args.ends.now in
    let test : ℕ → Bool = dangles c.args.rule.now c.args.tuple.now X c.args.arrow.0 ends in
    let fault : ℕ → Refusal = λ name. Dangling c.args.arrow name in
    c.from_residual.ensures ∙ ap (option_map fault) c.in_err-part.ensures ∙ sym (first_found fault test 0 (X.names ends.source.0))

pub returns : goal.returns
returns g c =
    let X = g.P.Probe.instance c.args.probe.now in
    let ends = ends_of_arrow c.args.ends.now in
    let test : ℕ → Bool = dangles c.args.rule.now c.args.tuple.now X c.args.arrow.0 ends in
    let fault : ℕ → Refusal = λ name. Dangling c.args.arrow name in
    ap (option_map fault) c.in_ok-part.ensures ∙ sym (first_found fault test 0 (X.names ends.source.0))
