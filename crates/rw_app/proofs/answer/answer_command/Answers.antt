-- The answer about the document is that about what its bytes are.
use Rattle.rw_app.proofs.answer.answer_command.Goals as goal

pub returns-in-Ok : goal.returns-in-Ok
returns-in-Ok g c = rw c.in-Ok.ensures.gives c.answer_about.ensures
