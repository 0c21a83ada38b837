use Rattle.std.proofs.Common.{◌≡◌, ◌∙◌, List, ℕ, refl, sym, ap, subst}
use Rattle.std.proofs.lemmas.Result.{err_from_is_err_and}
use Rattle.rw_pick.specs.Words.{word_of}
use Rattle.rw_sched.specs.Schedules.{box_at}
use Rattle.rw_runs.specs.Runs.{State}
use Rattle.rw_runner.specs.Endings.{HasHappened}
use Rattle.rw_runner.proofs.Firing.{happens_suits, has_fired, has_failed}
use Rattle.rw_runner.proofs.runner.go_on.Goals as goal

pub next-requires-clause-suits : goal.next-requires-clause-suits
next-requires-clause-suits g c =
    let seed : ℕ = c.requires.words.0 in
    let present : State _ = record { standing = c.args.state.now; words = c.requires.words.1.0; rows = c.args.world.now } in
    let happened = c.in_ok-fired.ensures seed present refl c.requires.words.1.1 c.place-place.ensures in
    let is : c.kind.result.now ≡ box_at c.args.schedule.now c.args.state.now.place = c.kind.ensures.kind ∙ ap (box_at c.args.schedule.now) c.place-place.ensures in
    rw (← is, ← happened.outcome_is) (happens_suits g.W.World.step_relation (word_of seed) c.kind.result.now present happened.happening c.kind.ensures.within happened.happens)

pub returns-clause-on : goal.returns-clause-on
returns-clause-on g c seed taken at =
    let present : State _ = record { standing = c.args.state.now; words = taken; rows = c.args.world.now } in
    let happened = c.in_ok-fired.ensures seed present refl at c.place-place.ensures in
    let is : c.kind.result.now ≡ box_at c.args.schedule.now c.args.state.now.place = c.kind.ensures.kind ∙ ap (box_at c.args.schedule.now) c.place-place.ensures in
    has_fired g.W.World.step_relation seed c.args.schedule.now g.W.World.lines c.kind.result.now present _ _ c.args.buffer.now _ _ _ _ c.in_ok-fired.fired.outcome c.as_slice.result.now
    is c.requires.fuel (rw c.as_slice.ensures.value happened) c.in_ok-put.ensures.bytes c.next.ensures.after

pub returns-in_err-put-clause-on : goal.returns-in_err-put-clause-on
returns-in_err-put-clause-on g c seed taken at =
    let present : State _ = record { standing = c.args.state.now; words = taken; rows = c.args.world.now } in
    let happened = c.in_ok-fired.ensures seed present refl at c.place-place.ensures in
    let is : c.kind.result.now ≡ box_at c.args.schedule.now c.args.state.now.place = c.kind.ensures.kind ∙ ap (box_at c.args.schedule.now) c.place-place.ensures in
    let told : HasHappened g.W.World.step_relation seed g.W.World.lines c.kind.result.now present c.fire.new.self c.fire.new.words c.in_ok-fired.fired.outcome c.as_slice.result.now = rw c.as_slice.ensures.value happened in
    let end = err_from_is_err_and c.from_residual-in_err-put.result c.from_residual-in_err-put.ensures.1 in
    rw (end.1, end.2)
    (has_failed g.W.World.step_relation seed c.args.schedule.now g.W.World.lines c.kind.result.now present _ _ c.args.buffer.now c.put.new.self c.fire.new.self c.fire.new.words c.in_ok-fired.fired.outcome c.as_slice.result.now _
    is c.requires.fuel told c.in_err-put.ensures.bytes)

pub fire-requires-clause-known : goal.fire-requires-clause-known
fire-requires-clause-known g c = (c.args.schedule.now, (c.requires.sound, c.kind.ensures.kind))
