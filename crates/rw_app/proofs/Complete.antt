-- Completeness follows from how a call ends.
use Rattle.std.proofs.Common.{◌≡◌, ◌+◌, ◌≤◌, ◌<◌, ℕ, List, ◌++◌, length, Option, Some, None, Err, refl, sym, ap, subst, ◌∙◌, inl, inr, append-nil, length-append, arith}
use Rattle.rw_outside.specs.declared.writing.WriteEnd.{WriteEnd}
use Rattle.rw_outside.specs.declared.writing.WriteEnd.TheVariants.{Fault}
use Rattle.rw_outside.specs.Faults.{Rose}
use Rattle.rw_outside.specs.Reading.{Came, IsReadWhole}
use Rattle.rw_outside.specs.Writing.{WritesAll}
use Rattle.rw_app.specs.declared.status.Status.{Status}
use Rattle.rw_app.specs.declared.status.Status.TheVariants.{Done, BadWords, Refused, Spent, Failed, NoMemory, ReadFault, WriteFault, TooLong}
use Rattle.rw_app.specs.AnswerText.{AnswerText}
use Rattle.rw_app.specs.Commands.{Request}
use Rattle.rw_app.specs.Endings.{Outside, most_bytes, AppendsPart, Written, Answered, Ends, EndsAsAsked, IsWhole, IsComplete}

-- a text that was not written whole has had a beginning written
pub part_written : (text : List ℕ) (held now : Option (List ℕ)) (end : WriteEnd) → WritesAll text held now (Err end) → AppendsPart held now text
part_written text held now Fault part = (part.0, omega (arith, part.1), part.2)

-- a source that is read whole gives the bytes that were left
pub all_read : (limit : ℕ) (left : List ℕ) (now : Option (List ℕ)) (bytes : List ℕ) → IsReadWhole limit (Some left) now bytes → left ≡ bytes
all_read limit left None bytes whole = absurd whole.came
all_read limit left (Some rest) bytes whole = whole.came ∙ ap (λ more. bytes ++ more) whole.end ∙ append-nil bytes

-- no more bytes come than are left
pub few_come : (limit : ℕ) (left : List ℕ) (now : Option (List ℕ)) → length left ≤ limit → Came (λ count. limit < count) (Some left) now → ⊥
few_come limit left None few came = came.1
few_come limit left (Some rest) few came =
    let same : length left ≡ length came.0 + length rest = ap length came.1 ∙ length-append came.0 rest in
    let more : limit < length came.0 = came.2 in
    omega arith

-- an answer that was written whole is one to the bytes that were left
pub answered : (IsAnswer : List ℕ → AnswerText → Type 0) (old new : Outside) (status : Status) (bytes : List ℕ) → Answered IsAnswer old new status
    → old.left ≡ Some bytes → IsWhole (IsAnswer bytes) old new status
answered IsAnswer old new status bytes given left =
    let whole : IsReadWhole most_bytes (Some bytes) new.left given.0 = subst (λ before. IsReadWhole most_bytes before new.left given.0) left given.1 in
    let same : given.0 ≡ bytes = sym (all_read most_bytes bytes new.left given.0 whole) in
    inl (subst (λ those. Written (IsAnswer those) old.held new.held status) same given.2, whole.end)

-- a call that ends as a command does is complete
pub command_complete : (IsAnswer : List ℕ → AnswerText → Type 0) (old new : Outside) (status : Status) (bytes : List ℕ) → Ends IsAnswer old new status
    → old.left ≡ Some bytes → length bytes ≤ most_bytes → (Rose old.source_faults new.source_faults → ⊥) → (Rose old.sink_faults new.sink_faults → ⊥)
    → IsWhole (IsAnswer bytes) old new status
command_complete IsAnswer old new Done bytes ends left few no_source_fault no_sink_fault = answered IsAnswer old new Done bytes ends left
command_complete IsAnswer old new (Refused fault) bytes ends left few no_source_fault no_sink_fault = answered IsAnswer old new (Refused fault) bytes ends left
command_complete IsAnswer old new Spent bytes ends left few no_source_fault no_sink_fault = answered IsAnswer old new Spent bytes ends left
command_complete IsAnswer old new Failed bytes ends left few no_source_fault no_sink_fault = answered IsAnswer old new Failed bytes ends left
command_complete IsAnswer old new BadWords bytes ends left few no_source_fault no_sink_fault = absurd ends
command_complete IsAnswer old new NoMemory bytes ends left few no_source_fault no_sink_fault = inr (refl, ends.1)
command_complete IsAnswer old new ReadFault bytes ends left few no_source_fault no_sink_fault = absurd (no_source_fault ends.0)
command_complete IsAnswer old new TooLong bytes ends left few no_source_fault no_sink_fault =
    absurd (few_come most_bytes bytes new.left few (subst (λ before. Came (λ count. most_bytes < count) before new.left) left ends.0))
command_complete IsAnswer old new WriteFault bytes ends left few no_source_fault no_sink_fault = absurd (no_sink_fault ends.0)

-- a call of the commands is complete
pub complete_from_ends : (IsAnswer : Request → List ℕ → AnswerText → Type 0) (request : Option Request) (old new : Outside) (status : Status)
    → EndsAsAsked IsAnswer request old new status → IsComplete IsAnswer request old new status
complete_from_ends IsAnswer None old new status ends = tt
complete_from_ends IsAnswer (Some request) old new status ends =
    λ bytes left few no_source_fault no_sink_fault. command_complete (IsAnswer request) old new status bytes ends left few no_source_fault no_sink_fault
