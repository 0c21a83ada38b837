-- Each name that gets another name is there.
use Rattle.std.proofs.Common.{ℕ, List, subst}
use Rattle.std.proofs.lemmas.List.{get_or-map, length-map}
use Rattle.rw_spec.specs.Ends.{target_of}
use Rattle.rw_spec.specs.Instance.{Has}
use Rattle.rw_glue.proofs.row_changes.redirected_names.Goals as goal

pub append_leading-requires-clause-target : goal.append_leading-requires-clause-target
append_leading-requires-clause-target g c =
    let place : ℕ = c.loop-entry.entry-index in
    let moved : List (ℕ × ℕ) = c.args.moved.now in
    subst (Has (g.P.Probe.instance c.args.probe.now) (target_of (g.P.Probe.signature c.args.probe.now) c.args.arrow.0))
    (get_or-map (λ (entry : ℕ × ℕ). entry.0) moved place (0, 0) 0 c.loop-entry-test.true)
    (c.requires.targets place 0 (rw (length-map moved (λ (entry : ℕ × ℕ). entry.0)) c.loop-entry-test.true))
