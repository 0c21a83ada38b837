use Rattle.rw_app.proofs.Complete.{complete_from_ends}
use Rattle.rw_app.proofs.run.run_words.Goals as goal

pub returns-clause-complete : goal.returns-clause-complete
returns-clause-complete g c = complete_from_ends _ _ _ _ _ c.dispatch.ensures.ends
