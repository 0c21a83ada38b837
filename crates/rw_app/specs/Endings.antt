-- What a call of the program's commands does to the source and the sink that it is lent.
use Rattle.std.specs.Prelude.{◌≡◌, ◌≤◌, ◌<◌, ◌⊎◌, ℕ, List, length, take, Option, Some, None}
use Rattle.std.specs.Io.KnownBytes.{IsAtEnd, Appends, Keeps}
use Rattle.rw_outside.specs.Faults.{Rose}
use Rattle.rw_outside.specs.Reading.{Came, IsReadWhole}
use Rattle.rw_app.specs.declared.status.Status.{Status}
use Rattle.rw_app.specs.declared.status.Status.TheVariants.{Done, BadWords, Refused, Spent, Failed, NoMemory, ReadFault, WriteFault, TooLong}
use Rattle.rw_app.specs.AnswerText.{AnswerText}
use Rattle.rw_app.specs.Commands.{Request, usage}

-- the greatest number of bytes that are read
abbrev pub most_bytes : ℕ
most_bytes = 67108864

-- the source and the sink at a moment: what is left and what is held, where they tell it, and their counts of faults
pub record Outside : Type 0 where
  pub left : Option (List ℕ)
  pub held : Option (List ℕ)
  pub source_faults : ℕ
  pub sink_faults : ℕ

-- a beginning of the text was appended
abbrev pub AppendsPart : Option (List ℕ) → Option (List ℕ) → List ℕ → Type 0
AppendsPart old new text = (count : ℕ) × (count ≤ length text) × Appends old new (take count text)

-- an answer was written whole, and this is its status
abbrev pub Written : (AnswerText → Type 0) → Option (List ℕ) → Option (List ℕ) → Status → Type 0
Written IsAnswer old new status = (answer : AnswerText) × IsAnswer answer × Appends old new answer.text × (status ≡ answer.status)

-- the bytes were read whole, and an answer to them was written whole; this is its status
abbrev pub Answered : (List ℕ → AnswerText → Type 0) → Outside → Outside → Status → Type 0
Answered IsAnswer old new status =
    (bytes : List ℕ) × IsReadWhole most_bytes old.left new.left bytes × Written (IsAnswer bytes) old.held new.held status

-- a beginning of an answer was written
abbrev pub WrittenInPart : (AnswerText → Type 0) → Option (List ℕ) → Option (List ℕ) → Type 0
WrittenInPart IsAnswer old new = (answer : AnswerText) × IsAnswer answer × AppendsPart old new answer.text

-- how a command ends that reads a document
abbrev pub Ends : (List ℕ → AnswerText → Type 0) → Outside → Outside → Status → Type 0
Ends IsAnswer old new Done = Answered IsAnswer old new Done
Ends IsAnswer old new (Refused fault) = Answered IsAnswer old new (Refused fault)
Ends IsAnswer old new Spent = Answered IsAnswer old new Spent
Ends IsAnswer old new Failed = Answered IsAnswer old new Failed
Ends IsAnswer old new BadWords = ⊥
Ends IsAnswer old new NoMemory = Came (λ count. Unit {0}) old.left new.left × Keeps old.held new.held
Ends IsAnswer old new ReadFault = Rose old.source_faults new.source_faults × Came (λ count. count ≤ most_bytes) old.left new.left × Keeps old.held new.held
Ends IsAnswer old new TooLong = Came (λ count. most_bytes < count) old.left new.left × Keeps old.held new.held
Ends IsAnswer old new WriteFault = Rose old.sink_faults new.sink_faults
    × ((bytes : List ℕ) × IsReadWhole most_bytes old.left new.left bytes × WrittenInPart (IsAnswer bytes) old.held new.held)

-- the source is as it was
abbrev pub IsUnread : Outside → Outside → Type 0
IsUnread old new = (new.left ≡ old.left) × (new.source_faults ≡ old.source_faults)

-- how a call ends whose words ask for nothing: it reads nothing and takes no memory
abbrev pub EndsUnread : Outside → Outside → Status → Type 0
EndsUnread old new BadWords = IsUnread old new × Appends old.held new.held usage
EndsUnread old new WriteFault = IsUnread old new × Rose old.sink_faults new.sink_faults × AppendsPart old.held new.held usage
EndsUnread old new Done = ⊥
EndsUnread old new (Refused fault) = ⊥
EndsUnread old new Spent = ⊥
EndsUnread old new Failed = ⊥
EndsUnread old new NoMemory = ⊥
EndsUnread old new ReadFault = ⊥
EndsUnread old new TooLong = ⊥

-- how a call ends, by what the words ask for
abbrev pub EndsAsAsked : (Request → List ℕ → AnswerText → Type 0) → Option Request → Outside → Outside → Status → Type 0
EndsAsAsked IsAnswer None old new status = EndsUnread old new status
EndsAsAsked IsAnswer (Some request) old new status = Ends (IsAnswer request) old new status

-- a command's own statuses: those that its answer can have
abbrev pub IsOfAnswer : Status → Type 0
IsOfAnswer Done = Unit {0}
IsOfAnswer (Refused fault) = Unit {0}
IsOfAnswer Spent = Unit {0}
IsOfAnswer Failed = Unit {0}
IsOfAnswer BadWords = ⊥
IsOfAnswer NoMemory = ⊥
IsOfAnswer ReadFault = ⊥
IsOfAnswer WriteFault = ⊥
IsOfAnswer TooLong = ⊥

-- how the writing of an answer ends
abbrev pub EndsWritten : (AnswerText → Type 0) → Outside → Outside → Status → Type 0
EndsWritten IsAnswer old new Done = Written IsAnswer old.held new.held Done
EndsWritten IsAnswer old new (Refused fault) = Written IsAnswer old.held new.held (Refused fault)
EndsWritten IsAnswer old new Spent = Written IsAnswer old.held new.held Spent
EndsWritten IsAnswer old new Failed = Written IsAnswer old.held new.held Failed
EndsWritten IsAnswer old new NoMemory = Keeps old.held new.held
EndsWritten IsAnswer old new WriteFault = Rose old.sink_faults new.sink_faults × WrittenInPart IsAnswer old.held new.held
EndsWritten IsAnswer old new BadWords = ⊥
EndsWritten IsAnswer old new ReadFault = ⊥
EndsWritten IsAnswer old new TooLong = ⊥

-- an answer is written whole and the source is read whole, or memory ran out and nothing is written
abbrev pub IsWhole : (AnswerText → Type 0) → Outside → Outside → Status → Type 0
IsWhole IsAnswer old new status =
    (Written IsAnswer old.held new.held status × IsAtEnd new.left) ⊎ ((status ≡ NoMemory) × Keeps old.held new.held)

-- Completeness: where the words ask for something, at most the limit of bytes is left and no count rises, an answer to
-- these bytes is given, or memory ran out.
abbrev pub IsComplete : (Request → List ℕ → AnswerText → Type 0) → Option Request → Outside → Outside → Status → Type 0
IsComplete IsAnswer None old new status = Unit {0}
IsComplete IsAnswer (Some request) old new status =
    (bytes : List ℕ) → old.left ≡ Some bytes → length bytes ≤ most_bytes
    → ¬ Rose old.source_faults new.source_faults → ¬ Rose old.sink_faults new.sink_faults
    → IsWhole (IsAnswer request bytes) old new status
