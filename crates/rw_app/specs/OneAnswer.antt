-- The bytes of a document have one answer.
use Rattle.std.specs.Prelude.{◌≡◌, ℕ, List}
use Rattle.rw_terms.specs.OpTables.{OpEntry}
use Rattle.rw_app.specs.Answers.{IsAnswer}
use Rattle.rw_app.specs.AnswerText.{AnswerText}
use Rattle.rw_app.specs.Commands.{Request}

-- any two answers to a request about the document that bytes are have the same status and the same text
abbrev pub HasOneAnswer : List OpEntry → Request → List ℕ → Type 0
HasOneAnswer ops request bytes = (one other : AnswerText) → IsAnswer ops request bytes one → IsAnswer ops request bytes other → one ≡ other
