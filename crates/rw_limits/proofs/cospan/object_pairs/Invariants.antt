-- The pairs of the objects so far.
use Rattle.std.proofs.Common.{◌≡◌, map}
use Rattle.std.specs.List.{range_with_len}
use Rattle.rw_limits.specs.Pairs.{pairs_at}
use Rattle.rw_limits.specs.inner.RowCospans.{cospan_in}
use Rattle.rw_limits.proofs.cospan.object_pairs.Given as goal

abbrev pub invariant-loop-place : goal.invariant-loop-place
invariant-loop-place l = map (λ list. list.items) l.pairs.items ≡ map (pairs_at (cospan_in l.cospan)) (range_with_len 0 l.place)
