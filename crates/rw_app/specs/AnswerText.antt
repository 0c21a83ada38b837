-- An answer: a status and a text.
use Rattle.std.specs.Prelude.{ℕ, List}
use Rattle.rw_doc.specs.declared.fault.DocFault.{DocFault}
use Rattle.rw_print.specs.Lines.{line, fault_data}
use Rattle.rw_app.specs.declared.status.Status.{Status}
use Rattle.rw_app.specs.declared.status.Status.TheVariants.{Done, Refused}

pub record AnswerText : Type 0 where
  pub status : Status
  pub text : List ℕ

-- a fault is answered by its line
abbrev pub refusal : DocFault → AnswerText
refusal fault = record { status = Refused fault; text = line (fault_data fault.code fault.section fault.first fault.second fault.third) }

-- a command that is done, with its text
abbrev pub done_with : List ℕ → AnswerText
done_with text = record { status = Done; text = text }
