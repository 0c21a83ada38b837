-- The firings so far lead to the present state; of their text a front was written and the rest waits.
use Rattle.std.proofs.Common.{◌≡◌, ℕ, List}
use Rattle.rw_pick.specs.Words.{after_words, word_of}
use Rattle.rw_sched.specs.Machine.{StandsIn}
use Rattle.rw_runs.specs.Runs.{State, start, Firing}
use Rattle.rw_runs.specs.Streams.{Streams}
use Rattle.rw_runner.proofs.runner.run_loop.Given as goal

abbrev pub invariant-loop-close : goal.invariant-loop-close
invariant-loop-close g l = let world = g.W.World in let sink = g.K.Sink in record {
  taken : ℕ;
  words_are : l.words ≡ after_words l.seed taken;
  firings : List (Firing _ _);
  streams : Streams world.step_relation (word_of l.seed) l.schedule world.lines (start l.schedule l.fuel l.fn.world) (sink.held l.fn.sink) (sink.held l.sink) l.buffer firings (record { standing = l.state; words = taken; rows = l.present });
  stands : StandsIn l.schedule l.state;
  count : sink.faults l.sink ≡ sink.faults l.fn.sink;
}

abbrev pub decreases-loop-close : goal.decreases-loop-close
decreases-loop-close g l = l.state.fuel
