use Rattle.rw_pick.specs.Words.{word_of}
use Rattle.rw_runs.specs.Runs.{start}
use Rattle.rw_runs.proofs.OneRun.{one_run}
use Rattle.rw_runner.proofs.runner.has_one_run.Goals as goal

pub returns : goal.returns
returns g c =
    one_run g.W.World.step_relation (word_of c.args.seed) c.args.schedule.now (g.W.World.is_sound c.args.schedule.now) (g.met.W.World.verdicts c.args.schedule.now)
    (start c.args.schedule.now c.args.fuel c.args.world.now) c.requires
