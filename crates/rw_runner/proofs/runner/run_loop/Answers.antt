use Rattle.std.proofs.Common.{◌≡◌, ◌∙◌, ◌++◌, ◌∷◌, [], List, ℕ, Some, refl, sym, ap, subst, arith}
use Rattle.std.proofs.lemmas.Result.{err_from_is_err_and}
use Rattle.rw_pick.specs.Words.{word_of}
use Rattle.rw_sched.specs.Schedules.{box_at}
use Rattle.rw_runs.specs.Runs.{State, start, state_after}
use Rattle.rw_runs.proofs.OneRun.{leads_sound}
use Rattle.rw_runs.proofs.Streaming.{streams_begin, streams_more}
use Rattle.rw_runner.specs.Endings.{Closes}
use Rattle.rw_runner.proofs.Finishing.{run_unbegun, run_finished, run_stopped, closes_at}
use Rattle.rw_runner.proofs.runner.run_loop.Goals as goal

pub returns-in_err-state-clause-ends : goal.returns-in_err-state-clause-ends
returns-in_err-state-clause-ends g c =
    let end = err_from_is_err_and c.from_residual.result c.from_residual.ensures.1 in
    rw (end.1, end.2) (run_unbegun g.W.World.step_relation (word_of c.args.seed) c.args.schedule.now g.W.World.lines (start c.args.schedule.now c.args.fuel c.args.world) _
    (g.W.World.is_sound c.args.schedule.now) (g.met.W.World.verdicts c.args.schedule.now) c.requires)

pub returns-in_err-buffer-clause-ends : goal.returns-in_err-buffer-clause-ends
returns-in_err-buffer-clause-ends g c =
    let end = err_from_is_err_and c.from_residual-in_err-buffer.result c.from_residual-in_err-buffer.ensures.1 in
    rw (end.1, end.2) (run_unbegun g.W.World.step_relation (word_of c.args.seed) c.args.schedule.now g.W.World.lines (start c.args.schedule.now c.args.fuel c.args.world) _
    (g.W.World.is_sound c.args.schedule.now) (g.met.W.World.verdicts c.args.schedule.now) c.requires)

pub loop-close-init : goal.loop-close-init
loop-close-init g c = record {
  taken = 0;
  words_are = c.from_seed-words.ensures;
  firings = [];
  streams = rw (c.in_ok-state.ensures.start, c.in_ok-buffer.ensures)
      (streams_begin g.W.World.step_relation (word_of c.args.seed) c.args.schedule.now g.W.World.lines (start c.args.schedule.now c.args.fuel c.args.world) _);
  stands = c.in_ok-state.ensures.stands;
  count = refl;
}

pub returns-in-Some-clause-ends : goal.returns-in-Some-clause-ends
returns-in-Some-clause-ends g c =
    let invariant = c.loop-close.invariant in
    let present : State _ = record { standing = c.loop-close.state; words = invariant.taken; rows = c.loop-close.present } in
    let box_is : c.kind-kind.result.now ≡ box_at c.args.schedule.now c.loop-close.state.place = c.kind-kind.ensures.kind ∙ ap (box_at c.args.schedule.now) c.place.ensures in
    let closes : Closes c.kind-kind.result.now c.loop-close.state.fuel (Some c.in-Some.close) =
    subst (λ (fuel : ℕ). Closes c.kind-kind.result.now fuel (Some c.in-Some.close)) c.fuel.ensures c.in-Some.ensures in
    run_finished g.W.World.step_relation (word_of c.args.seed) c.args.schedule.now g.W.World.lines (start c.args.schedule.now c.args.fuel c.args.world) _
    (g.W.World.is_sound c.args.schedule.now) (g.met.W.World.verdicts c.args.schedule.now) c.requires
    _ _ c.loop-close.buffer invariant.firings present c.in-Some.close c.finish.result invariant.streams
    (closes_at c.args.schedule.now present c.kind-kind.result.now c.in-Some.close box_is closes)
    (c.finish.ensures.ends present refl c.fuel-in-Some.ensures)

pub loop-close-preserved : goal.loop-close-preserved
loop-close-preserved g c =
    let invariant = c.loop-close.invariant in
    let present : State _ = record { standing = c.loop-close.state; words = invariant.taken; rows = c.loop-close.present } in
    let on = c.in_ok-go_on.ensures.on c.args.seed invariant.taken invariant.words_are in
    record {
      taken = (state_after c.args.schedule.now on.firing).words;
      words_are = on.words_are;
      firings = invariant.firings ++ on.firing ∷ [];
      streams = rw (on.standing_is, on.rows_are)
          (streams_more g.W.World.step_relation (word_of c.args.seed) c.args.schedule.now g.W.World.lines (start c.args.schedule.now c.args.fuel c.args.world) _
          _ _ c.loop-close.buffer _ invariant.firings present on.firing invariant.streams on.is on.sent);
      stands = c.in_ok-go_on.ensures.stands;
      count = c.in_ok-go_on.ensures.faults ∙ invariant.count;
    }

pub returns-in_err-go_on-clause-ends : goal.returns-in_err-go_on-clause-ends
returns-in_err-go_on-clause-ends g c =
    let invariant = c.loop-close.invariant in
    let present : State _ = record { standing = c.loop-close.state; words = invariant.taken; rows = c.loop-close.present } in
    let end = err_from_is_err_and c.from_residual-in_err-go_on.result c.from_residual-in_err-go_on.ensures.1 in
    rw (end.1, end.2)
    (run_stopped g.W.World.step_relation c.args.seed c.args.schedule.now g.W.World.lines (start c.args.schedule.now c.args.fuel c.args.world) _
    (g.W.World.is_sound c.args.schedule.now) (g.met.W.World.verdicts c.args.schedule.now) c.requires
    _ _ c.loop-close.buffer c.go_on.new.buffer invariant.firings present c.go_on.new.state c.go_on.new.words c.go_on.new.world _ invariant.streams
    (c.in_err-go_on.ensures.on c.args.seed invariant.taken invariant.words_are))

pub go_on-requires-clause-words : goal.go_on-requires-clause-words
go_on-requires-clause-words g c = (c.args.seed, (c.loop-close.invariant.taken, c.loop-close.invariant.words_are))

pub go_on-requires-clause-sound : goal.go_on-requires-clause-sound
go_on-requires-clause-sound g c =
    let invariant = c.loop-close.invariant in
    let present : State _ = record { standing = c.loop-close.state; words = invariant.taken; rows = c.loop-close.present } in
    leads_sound g.W.World.step_relation (word_of c.args.seed) c.args.schedule.now (g.W.World.is_sound c.args.schedule.now) (g.met.W.World.verdicts c.args.schedule.now)
    (start c.args.schedule.now c.args.fuel c.args.world) present invariant.firings c.requires invariant.streams.leads
