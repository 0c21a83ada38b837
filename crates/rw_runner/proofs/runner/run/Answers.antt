use Rattle.rw_runner.proofs.Finishing.{run_whole}
use Rattle.rw_runner.proofs.runner.run.Goals as goal

pub returns-clause-complete : goal.returns-clause-complete
returns-clause-complete g c none = run_whole _ _ _ _ _ _ _ _ _ _ c.run_loop.ensures.ends c.run_loop.ensures.faults none
