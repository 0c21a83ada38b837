-- What is known of a good result.
use Rattle.std.proofs.Common.{Result, Ok, Err}
use Rattle.std.specs.Prelude.{IfOk}

-- what follows from what holds of it holds
pub ok_more : {A E : Type 0} (result : Result A E) (P Q : A → Type 0) → ((a : A) → P a → Q a) → IfOk result P → IfOk result Q
ok_more (Ok a) P Q onward holds = onward a holds
ok_more (Err e) P Q onward holds = holds
