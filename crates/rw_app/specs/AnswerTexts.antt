-- The answer that a call gives, as contracts see it.
use Rattle.rw_app.specs.declared.answer.Answer.{Answer}
use Rattle.rw_app.specs.AnswerText.{AnswerText}

abbrev pub text_of_answer : Answer → AnswerText
text_of_answer answer = record { status = answer.status; text = answer.text.items }
