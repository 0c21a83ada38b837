-- The sizes so far are those of the objects passed.
use Rattle.std.proofs.Common.{◌≡◌, length, map, take}
use Rattle.rw_app.proofs.counts.sizes_of.Given as goal

abbrev pub invariant-loop-object : goal.invariant-loop-object
invariant-loop-object l = l.sizes.items ≡ map length (take l.object l.rows.names)
