-- What holds for every seed holds for the one that was given.
use Rattle.std.proofs.Common.{ℕ, IfOk, Result, Ok, Err}

pub for_seed : {A E : Type 0} (result : Result A E) (P : ℕ → A → Type 0) (seed : ℕ) → IfOk result (λ answer. (other : ℕ) → P other answer) → IfOk result (P seed)
for_seed (Ok answer) P seed holds = holds seed
for_seed (Err error) P seed holds = tt
