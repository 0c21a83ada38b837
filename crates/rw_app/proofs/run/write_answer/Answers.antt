use Rattle.rw_terms.specs.OpEntries.{entries}
use Rattle.rw_document.specs.Documents.{read_document}
use Rattle.rw_app.specs.AnswerTexts.{text_of_answer}
use Rattle.rw_app.specs.Commands.{asked_for}
use Rattle.rw_app.proofs.AnswerStatuses.{status_of_answer}
use Rattle.rw_app.proofs.run.write_answer.Goals as goal

pub write_text-requires : goal.write_text-requires
write_text-requires g c =
    status_of_answer (entries c.args.ops.now) (asked_for c.args.command) (read_document (entries c.args.ops.now) c.args.bytes.now) (text_of_answer c.in-Ok.answer) c.in-Ok.ensures
