-- The statuses that an answer can have.
use Rattle.std.proofs.Common.{List, Option, Some, None, Result, Ok, Err, find, sym, subst}
use Rattle.std.specs.Str.{bytes_eq}
use Rattle.rw_schema.specs.Presentation.{Presentation}
use Rattle.rw_terms.specs.OpTables.{OpEntry}
use Rattle.rw_rule.specs.RuleLists.{WatchLists}
use Rattle.rw_limits.specs.declared.colimit.GlueFault.{GlueFault}
use Rattle.rw_limits.specs.declared.colimit.GlueFault.TheVariants as glue_faults
use Rattle.rw_limits.specs.declared.colimit.PushoutResult.{PushoutResult}
use Rattle.rw_limits.specs.declared.limit.PullbackResult.{PullbackResult}
use Rattle.rw_limits.specs.declared.limit.PullEnd.{PullEnd}
use Rattle.rw_limits.specs.declared.limit.PullEnd.TheVariants as pull_ends
use Rattle.rw_doc.specs.declared.fault.DocFault.{DocFault}
use Rattle.rw_docspan.specs.Spans.{SpanLists, CospanLists}
use Rattle.rw_document.specs.Models.{DocumentLists}
use Rattle.rw_print.specs.declared.last.End.{End}
use Rattle.rw_print.specs.declared.last.End.TheVariants.{Done, Failed, Spent}
use Rattle.rw_app.specs.AnswerText.{AnswerText}
use Rattle.rw_app.specs.Answers.{listed, status_of_end, IsAnswerTo}
use Rattle.rw_app.specs.Commands.{Request, matches, run, check, pushout, pullback}
use Rattle.rw_app.specs.Endings.{IsOfAnswer}
use Rattle.rw_app.specs.Kept.{named_goals}
use Rattle.rw_app.specs.Limits.{TellsPushout, IsPushoutAnswer, TellsPullback, IsPullbackAnswer}

-- a list of matches and an unknown name have a status of an answer
status_of_listed : (document : DocumentLists) (found : Option WatchLists) → IsOfAnswer (listed document found).status
status_of_listed document None = tt
status_of_listed document (Some named) = tt

-- the end of a run has a status of an answer
status_at_end : (end : End) → IsOfAnswer (status_of_end end)
status_at_end Done = tt
status_at_end Failed = tt
status_at_end Spent = tt

-- what is told of the end of a pushout has a status of an answer
status_told_of_pushout : (schema : Presentation) (end : Result PushoutResult GlueFault) (answer : AnswerText) → TellsPushout schema end answer → IsOfAnswer answer.status
status_told_of_pushout schema (Ok result) answer is = subst (λ (answer : AnswerText). IsOfAnswer answer.status) (sym is) tt
status_told_of_pushout schema (Err (glue_faults.Clash object part attr first second)) answer is = subst (λ (answer : AnswerText). IsOfAnswer answer.status) (sym is) tt
status_told_of_pushout schema (Err glue_faults.OutOfMemory) answer is = absurd is

-- an answer about a span has a status of an answer
status_of_pushout : (schema : Presentation) (span : Option SpanLists) (answer : AnswerText) → IsPushoutAnswer schema span answer → IsOfAnswer answer.status
status_of_pushout schema None answer is = subst (λ (answer : AnswerText). IsOfAnswer answer.status) (sym is) tt
status_of_pushout schema (Some span) answer is = status_told_of_pushout schema is.0 answer is.2

-- what is told of the end of a pullback has a status of an answer
status_told_of_pullback : (schema : Presentation) (end : Result PullbackResult PullEnd) (answer : AnswerText) → TellsPullback schema end answer → IsOfAnswer answer.status
status_told_of_pullback schema (Ok result) answer is = subst (λ (answer : AnswerText). IsOfAnswer answer.status) (sym is) tt
status_told_of_pullback schema (Err (pull_ends.TooLarge object)) answer is = subst (λ (answer : AnswerText). IsOfAnswer answer.status) (sym is) tt
status_told_of_pullback schema (Err pull_ends.OutOfMemory) answer is = absurd is

-- an answer about a cospan has a status of an answer
status_of_pullback : (schema : Presentation) (cospan : Option CospanLists) (answer : AnswerText) → IsPullbackAnswer schema cospan answer → IsOfAnswer answer.status
status_of_pullback schema None answer is = subst (λ (answer : AnswerText). IsOfAnswer answer.status) (sym is) tt
status_of_pullback schema (Some cospan) answer is = status_told_of_pullback schema is.0 answer is.2

-- an answer to a request has a status of an answer
pub status_of_answer : (ops : List OpEntry) (request : Request) (reading : Result DocumentLists DocFault) (answer : AnswerText) → IsAnswerTo ops request reading answer → IsOfAnswer answer.status
status_of_answer ops request (Err fault) answer is = subst (λ (answer : AnswerText). IsOfAnswer answer.status) (sym is) tt
status_of_answer ops (matches name) (Ok document) answer is =
    subst (λ (answer : AnswerText). IsOfAnswer answer.status) (sym is)
    (status_of_listed document (find (λ named. bytes_eq name named.name) (named_goals document)))
status_of_answer ops check (Ok document) answer is = subst (λ (answer : AnswerText). IsOfAnswer answer.status) (sym is) tt
status_of_answer ops pushout (Ok document) answer is = status_of_pushout document.schema document.span answer is
status_of_answer ops pullback (Ok document) answer is = status_of_pullback document.schema document.cospan answer is
status_of_answer ops (run fuel seed) (Ok document) answer is =
    subst (λ (answer : AnswerText). IsOfAnswer answer.status) (sym is.2) (status_at_end is.0.end)
