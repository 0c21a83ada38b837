-- The names of the arrows so far.
use Rattle.std.proofs.Common.{map}
use Rattle.rw_delta.specs.inner.Gathered.{IsGathered}
use Rattle.rw_delta.proofs.touched.gather_rows.Given as goal

abbrev pub invariant-loop-place : goal.invariant-loop-place
invariant-loop-place l =
    IsGathered (map (λ each. each.source.0) l.arrows) (map (λ list. list.items) l.rows) l.object l.place l.initial.names.items l.names.items
