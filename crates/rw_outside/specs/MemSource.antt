-- What a source in memory is seen as, and what a take of it gives.
use Rattle.std.specs.Prelude.{ℕ, List, min, length}

-- a source in memory: what is left, how much a call gives at most, which calls fail, how many were
-- made and how many of them failed
pub record SourceState : Type 0 where
  pub left : List ℕ
  pub most : ℕ
  pub failing : List ℕ
  pub calls : ℕ
  pub faults : ℕ

-- how many bytes a take gives: as many as are left, as the room holds and as a call may give
abbrev pub given_count : SourceState → ℕ → ℕ
given_count source room = min source.most (min room (length source.left))
