-- What a quotient leaves is the remainder.
use Rattle.std.proofs.Common.{arith}
use Rattle.std.proofs.lemmas.Grind.{common_steps}
use Rattle.rw_terms.proofs.Remainders.{left_of_quotient}
use Rattle.rw_terms.proofs.code.OpCode.value.Goals as goal

pub returns-in-Rem : goal.returns-in-Rem
returns-in-Rem c = grind (arith, common_steps, left_of_quotient c.args.x c.args.y)
