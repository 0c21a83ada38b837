-- The names so far.
use Rattle.std.proofs.Common.{◌≡◌, ◌<◌, ℕ, length, slice_index, take}
use Rattle.rw_local.specs.inner.ChangeTo.{other_values}
use Rattle.rw_glue.proofs.names.moved_names.Given as goal

abbrev pub invariant-loop-place : goal.invariant-loop-place
invariant-loop-place l = (d : ℕ → ℕ) → ((place : ℕ) → place < length l.touched → d (slice_index l.touched place) ≡ slice_index l.names (slice_index l.numbers place))
    → l.moved.items ≡ other_values (λ x. x) d (take l.place l.touched)
