-- What a sink in memory is seen as, and what a put into it takes.
use Rattle.std.specs.Prelude.{ℕ, ◌-◌, ◌≡◌, ◌<◌, ◌⊎◌, List, length, Contains}

-- a sink in memory: what it holds, how many bytes it has room for in all, which calls fail, how many
-- were made and how many of them failed
pub record SinkState : Type 0 where
  pub held : List ℕ
  pub room : ℕ
  pub failing : List ℕ
  pub calls : ℕ
  pub faults : ℕ

-- how many bytes still fit
abbrev pub room_left : SinkState → ℕ
room_left sink = sink.room - length sink.held

-- the next put fails: its number is among the failing ones, or the piece is not empty and no byte fits
abbrev pub FailsNext : SinkState → List ℕ → Type 0
FailsNext sink piece = Contains sink.failing sink.calls ⊎ ((0 < length piece) × (room_left sink ≡ 0))
