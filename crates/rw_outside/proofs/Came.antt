-- What came of a source in two calls.
use Rattle.std.specs.Prelude.{ℕ, List, ◌++◌, length, Option, None, Some}
use Rattle.std.specs.Io.KnownBytes.{Consumes}
use Rattle.std.proofs.KnownBytes.{Consumes-trans}
use Rattle.rw_outside.specs.Reading.{Came}

-- what came first and what came next came, where the fact holds of their number
pub came_on : (P : ℕ → Type 0) (left between now : Option (List ℕ)) (first next : List ℕ)
    → Consumes left between first → Consumes between now next → P (length (first ++ next)) → Came P left now
came_on P None between now first next begun went holds = tt
came_on P (Some bytes) between now first next begun went holds =
    (first ++ next, Consumes-trans (Some bytes) between now first next begun went, holds)
