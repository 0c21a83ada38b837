use Rattle.std.proofs.Common.{Ok}
use Rattle.rw_terms.specs.OpEntries.{entries}
use Rattle.rw_document.specs.Models.{document_lists}
use Rattle.rw_app.specs.Answers.{IsAnswerTo}
use Rattle.rw_app.specs.AnswerTexts.{text_of_answer}
use Rattle.rw_app.specs.Commands.{run}
use Rattle.rw_app.proofs.Seeds.{for_seed}
use Rattle.rw_app.proofs.answer.answer_about.Goals as goal

pub returns-in-Run : goal.returns-in-Run
returns-in-Run g c =
    rw c.in-Run.is
    (for_seed c.run_document.result (λ seed answer. IsAnswerTo (entries c.args.ops.now) (run c.in-Run.fuel seed) (Ok (document_lists c.args.document.now)) (text_of_answer answer))
    c.in-Run.seed c.run_document.ensures)
