-- The answers about the span and the cospan of a document.
use Rattle.std.specs.Prelude.{◌≡◌, Option, Some, None, Result, Ok, Err}
use Rattle.rw_schema.specs.declared.section.Section.TheVariants as sections
use Rattle.rw_schema.specs.Presentation.{Presentation, signature_of}
use Rattle.rw_spec.specs.Cocone.{Frame}
use Rattle.rw_spec.specs.Pullback as pullbacks
use Rattle.rw_limits.specs.declared.colimit.GlueFault.{GlueFault}
use Rattle.rw_limits.specs.declared.colimit.GlueFault.TheVariants as glue_faults
use Rattle.rw_limits.specs.declared.colimit.PushoutResult.{PushoutResult}
use Rattle.rw_limits.specs.declared.limit.PullbackResult.{PullbackResult}
use Rattle.rw_limits.specs.declared.limit.PullEnd.{PullEnd}
use Rattle.rw_limits.specs.declared.limit.PullEnd.TheVariants as pull_ends
use Rattle.rw_limits.specs.Pullbacks.{cospan_of, PullsBack}
use Rattle.rw_limits.specs.Pushouts.{frame_of, PushesOut}
use Rattle.rw_doc.specs.Faults.{fault_of}
use Rattle.rw_docspan.specs.Spans.{SpanLists, CospanLists}
use Rattle.rw_print.specs.Limits.{limit_data, clash_data, large_data}
use Rattle.rw_print.specs.Lines.{line}
use Rattle.rw_app.specs.AnswerText.{AnswerText, refusal, done_with}

-- ---- pushouts

abbrev pub frame_of_span : SpanLists → Frame
frame_of_span span = frame_of span.apex span.left span.right span.to_left span.to_right

-- the answer tells the pushout or the clash; it has no text for want of memory
abbrev pub TellsPushout : Presentation → Result PushoutResult GlueFault → AnswerText → Type 0
TellsPushout schema (Ok result) answer = answer ≡ done_with (line (limit_data result.table.rows result.left result.right))
TellsPushout schema (Err (glue_faults.Clash object part attr first second)) answer = answer ≡ done_with (line (clash_data schema object part attr first second))
TellsPushout schema (Err glue_faults.OutOfMemory) answer = ⊥

-- the answer tells the pushout of the span or its first clash; without a span it is a fault of the command
abbrev pub IsPushoutAnswer : Presentation → Option SpanLists → AnswerText → Type 0
IsPushoutAnswer schema None answer = answer ≡ refusal (fault_of 2 sections.Span)
IsPushoutAnswer schema (Some span) answer =
    (end : Result PushoutResult GlueFault) × PushesOut (signature_of schema) (frame_of_span span) end × TellsPushout schema end answer

-- ---- pullbacks

abbrev pub base_of_cospan : CospanLists → pullbacks.Cospan
base_of_cospan cospan = cospan_of cospan.left cospan.right cospan.base cospan.left_map cospan.right_map

-- the answer tells the pullback or the object with too many pairs; it has no text for want of memory
abbrev pub TellsPullback : Presentation → Result PullbackResult PullEnd → AnswerText → Type 0
TellsPullback schema (Ok result) answer = answer ≡ done_with (line (limit_data result.table.rows result.left result.right))
TellsPullback schema (Err (pull_ends.TooLarge object)) answer = answer ≡ done_with (line (large_data schema object))
TellsPullback schema (Err pull_ends.OutOfMemory) answer = ⊥

-- the answer tells the pullback of the cospan, or that it is too large; without a cospan it is a fault of the command
abbrev pub IsPullbackAnswer : Presentation → Option CospanLists → AnswerText → Type 0
IsPullbackAnswer schema None answer = answer ≡ refusal (fault_of 2 sections.Cospan)
IsPullbackAnswer schema (Some cospan) answer =
    (end : Result PullbackResult PullEnd) × PullsBack (signature_of schema) (base_of_cospan cospan) end × TellsPullback schema end answer
