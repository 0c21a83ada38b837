-- The lists so far.
use Rattle.std.proofs.Common.{◌≡◌, [], map, replicate}
use Rattle.rw_doc.proofs.instance.empty_rows.Given as goal

abbrev pub invariant-loop-place : goal.invariant-loop-place
invariant-loop-place l = map (λ row. row.items) l.rows.items ≡ replicate l._place []
