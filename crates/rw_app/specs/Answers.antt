-- What each command answers of the bytes of a document: a status and a text.
use Rattle.std.specs.Prelude.{◌≡◌, ℕ, List, length, map, Option, Some, None, Result, Ok, Err, find}
use Rattle.std.specs.Str.{bytes_eq}
use Rattle.rw_schema.specs.declared.section.Section.TheVariants.{Whole}
use Rattle.rw_terms.specs.OpTables.{OpEntry, codes_of}
use Rattle.rw_rule.specs.RuleLists.{WatchLists}
use Rattle.rw_doc.specs.declared.fault.DocFault.{DocFault}
use Rattle.rw_document.specs.Documents.{read_document}
use Rattle.rw_document.specs.Models.{DocumentLists}
use Rattle.rw_print.specs.declared.last.End.{End}
use Rattle.rw_print.specs.declared.last.End.TheVariants as ends
use Rattle.rw_print.specs.Lines.{line, matches_data, check_data}
use Rattle.rw_app.specs.declared.status.Status.{Status}
use Rattle.rw_app.specs.declared.status.Status.TheVariants.{Done, Failed, Spent}
use Rattle.rw_app.specs.AnswerText.{AnswerText, refusal, done_with}
use Rattle.rw_app.specs.Commands.{Request}
use Rattle.rw_app.specs.Commands as commands
use Rattle.rw_app.specs.Kept.{named_goals, list_in, lists_in}
use Rattle.rw_app.specs.Limits.{IsPushoutAnswer, IsPullbackAnswer}
use Rattle.rw_app.specs.Runs.{Run, IsRun}
use Rattle.rw_app.specs.RunTexts.{run_text, sizes_in}

-- no rule and no watch has the name that was asked for
abbrev pub unknown_name : DocFault
unknown_name = record { code = 6; section = Whole; first = 0; second = 0; third = 0 }

-- the matches of a goal, in lexicographic order
abbrev pub listed : DocumentLists → Option WatchLists → AnswerText
listed document None = refusal unknown_name
listed document (Some named) = done_with (line (matches_data named.name (list_in document document.table.rows named)))

-- the lengths of the kept lists, and the numbers of parts
abbrev pub checked : DocumentLists → AnswerText
checked document = done_with (line (check_data (map length (lists_in document document.table.rows)) (sizes_in document.table.rows)))

-- the status of a run's end
abbrev pub status_of_end : End → Status
status_of_end ends.Done = Done
status_of_end ends.Failed = Failed
status_of_end ends.Spent = Spent

-- the text of a run, with the status of its end
abbrev pub told : DocumentLists → Run → AnswerText
told document run = record { status = status_of_end run.end; text = run_text document run }

-- the answer is that to a request about a document, whose terms have these operations, or about its first fault
abbrev pub IsAnswerTo : List OpEntry → Request → Result DocumentLists DocFault → AnswerText → Type 0
IsAnswerTo ops request (Err fault) answer = answer ≡ refusal fault
IsAnswerTo ops (commands.matches name) (Ok document) answer = answer ≡ listed document (find (λ named. bytes_eq name named.name) (named_goals document))
IsAnswerTo ops commands.check (Ok document) answer = answer ≡ checked document
IsAnswerTo ops commands.pushout (Ok document) answer = IsPushoutAnswer document.schema document.span answer
IsAnswerTo ops commands.pullback (Ok document) answer = IsPullbackAnswer document.schema document.cospan answer
IsAnswerTo ops (commands.run fuel seed) (Ok document) answer = (run : Run) × IsRun (codes_of ops) document fuel run × (answer ≡ told document run)

-- the answer is that to a request about the document that bytes are, where these operations can be named
abbrev pub IsAnswer : List OpEntry → Request → List ℕ → AnswerText → Type 0
IsAnswer ops request bytes answer = IsAnswerTo ops request (read_document ops bytes) answer
