-- The first object with too many pairs is the first of those that are left.
use Rattle.std.proofs.Common.{◌≡◌, length, drop}
use Rattle.std.specs.List.{range_with_len}
use Rattle.rw_schema.specs.First.{first_in}
use Rattle.rw_limits.specs.Pullbacks.{too_large}
use Rattle.rw_limits.specs.inner.RowCospans.{cospan_in, signature_in}
use Rattle.rw_limits.proofs.TooLarge.{if_too_large}
use Rattle.rw_limits.proofs.cospan.first_too_large.Given as goal

abbrev pub invariant-loop-place : goal.invariant-loop-place
invariant-loop-place l =
    too_large (signature_in l.cospan) (cospan_in l.cospan)
    ≡ first_in (if_too_large (cospan_in l.cospan)) l.place (drop l.place (range_with_len 0 (length l.cospan.schema.now.objects)))
