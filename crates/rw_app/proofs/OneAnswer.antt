-- The answer to the bytes of a document is determined.
use Rattle.std.proofs.Common.{◌≡◌, ◌≢◌, ◌∙◌, ℕ, List, Option, Some, None, Result, Ok, Err, refl, sym, ap, subst}
use Rattle.std.specs.Prelude.{IfSome}
use Rattle.rw_schema.specs.Presentation.{Presentation, signature_of}
use Rattle.rw_schema.specs.Signature.{IsCategory}
use Rattle.rw_terms.specs.OpTables.{OpEntry, codes_of}
use Rattle.rw_limits.specs.declared.colimit.GlueFault.{GlueFault}
use Rattle.rw_limits.specs.declared.colimit.GlueFault.TheVariants as glue_faults
use Rattle.rw_limits.specs.declared.colimit.PushoutResult.{PushoutResult}
use Rattle.rw_limits.specs.declared.limit.PullbackResult.{PullbackResult}
use Rattle.rw_limits.specs.declared.limit.PullEnd.{PullEnd}
use Rattle.rw_limits.specs.declared.limit.PullEnd.TheVariants as pull_ends
use Rattle.rw_limits.proofs.OneLimit.{one_pushout, one_pullback}
use Rattle.rw_doc.specs.declared.fault.DocFault.{DocFault}
use Rattle.rw_docspan.specs.Spans.{SpanLists, CospanLists}
use Rattle.rw_document.specs.Documents.{read_document}
use Rattle.rw_document.specs.Models.{DocumentLists}
use Rattle.rw_app.specs.AnswerText.{AnswerText}
use Rattle.rw_app.specs.Answers.{IsAnswerTo, told}
use Rattle.rw_app.specs.Commands.{Request, matches, run, check, pushout, pullback}
use Rattle.rw_app.specs.Limits.{frame_of_span, base_of_cospan, TellsPushout, IsPushoutAnswer, TellsPullback, IsPullbackAnswer}
use Rattle.rw_app.specs.OneAnswer.{HasOneAnswer}
use Rattle.rw_app.proofs.OneRun.{one_run}
use Rattle.rw_app.proofs.ReadSides.{HasSidesApart, IsReadWell, document_well}

-- ---- pushouts

-- one end is told in one way
told_alike : (schema : Presentation) (end : Result PushoutResult GlueFault) (one other : AnswerText) → TellsPushout schema end one → TellsPushout schema end other → one ≡ other
told_alike schema (Ok result) one other first second = first ∙ sym second
told_alike schema (Err (glue_faults.Clash object part attr a b)) one other first second = first ∙ sym second
told_alike schema (Err glue_faults.OutOfMemory) one other first second = absurd first

-- an end that is told is not want of memory
told_end : (schema : Presentation) (end : Result PushoutResult GlueFault) (answer : AnswerText) → TellsPushout schema end answer → end ≢ Err glue_faults.OutOfMemory
told_end schema (Ok result) answer tells same = cc
told_end schema (Err (glue_faults.Clash object part attr a b)) answer tells same = cc
told_end schema (Err glue_faults.OutOfMemory) answer tells same = tells

-- two answers about one span are the same
one_pushout_answer : (schema : Presentation) (span : Option SpanLists) → IsCategory (signature_of schema) → IfSome span HasSidesApart → (one other : AnswerText)
    → IsPushoutAnswer schema span one → IsPushoutAnswer schema span other → one ≡ other
one_pushout_answer schema None category apart one other first second = first ∙ sym second
one_pushout_answer schema (Some span) category apart one other (end, pushes, tells) (end', pushes', tells') =
    let same : end ≡ end' =
    one_pushout (signature_of schema) category (frame_of_span span) (λ object known. apart.left object) (λ object known. apart.right object) end end' pushes pushes'
    (told_end schema end one tells) (told_end schema end' other tells') in
    told_alike schema end' one other (subst (λ end. TellsPushout schema end one) same tells) tells'

-- ---- pullbacks

-- one end is told in one way
pullback_told_alike : (schema : Presentation) (end : Result PullbackResult PullEnd) (one other : AnswerText) → TellsPullback schema end one → TellsPullback schema end other
    → one ≡ other
pullback_told_alike schema (Ok result) one other first second = first ∙ sym second
pullback_told_alike schema (Err (pull_ends.TooLarge object)) one other first second = first ∙ sym second
pullback_told_alike schema (Err pull_ends.OutOfMemory) one other first second = absurd first

-- an end that is told is not want of memory
pullback_told_end : (schema : Presentation) (end : Result PullbackResult PullEnd) (answer : AnswerText) → TellsPullback schema end answer → end ≢ Err pull_ends.OutOfMemory
pullback_told_end schema (Ok result) answer tells same = cc
pullback_told_end schema (Err (pull_ends.TooLarge object)) answer tells same = cc
pullback_told_end schema (Err pull_ends.OutOfMemory) answer tells same = tells

-- two answers about one cospan are the same
one_pullback_answer : (schema : Presentation) (cospan : Option CospanLists) (one other : AnswerText)
    → IsPullbackAnswer schema cospan one → IsPullbackAnswer schema cospan other → one ≡ other
one_pullback_answer schema None one other first second = first ∙ sym second
one_pullback_answer schema (Some cospan) one other (end, pulls, tells) (end', pulls', tells') =
    let same : end ≡ end' =
    one_pullback (signature_of schema) (base_of_cospan cospan) end end' pulls pulls' (pullback_told_end schema end one tells) (pullback_told_end schema end' other tells') in
    pullback_told_alike schema end' one other (subst (λ end. TellsPullback schema end one) same tells) tells'

-- ---- all requests

-- two answers to a request about one document are the same
one_answer_to : (ops : List OpEntry) (request : Request) (read : Result DocumentLists DocFault) → ((document : DocumentLists) → read ≡ Ok document → IsReadWell document)
    → (one other : AnswerText) → IsAnswerTo ops request read one → IsAnswerTo ops request read other → one ≡ other
one_answer_to ops request (Err fault) well one other first second = first ∙ sym second
one_answer_to ops (matches name) (Ok document) well one other first second = first ∙ sym second
one_answer_to ops check (Ok document) well one other first second = first ∙ sym second
one_answer_to ops pushout (Ok document) well one other first second =
    let sound : IsReadWell document = well document refl in
    one_pushout_answer document.schema document.span sound.category sound.span one other first second
one_answer_to ops pullback (Ok document) well one other first second = one_pullback_answer document.schema document.cospan one other first second
one_answer_to ops (run fuel seed) (Ok document) well one other (first, is_first, told_first) (second, is_second, told_second) =
    told_first ∙ ap (told document) (one_run (codes_of ops) document fuel first second is_first is_second) ∙ sym told_second

-- two answers to a request about the document that bytes are are the same
pub one_answer : (ops : List OpEntry) (request : Request) (bytes : List ℕ) → HasOneAnswer ops request bytes
one_answer ops request bytes one other first second = one_answer_to ops request (read_document ops bytes) (document_well ops bytes) one other first second
