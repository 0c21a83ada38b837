-- The next names so far are those of the objects passed.
use Rattle.std.proofs.Common.{◌≡◌, map}
use Rattle.std.specs.List.{range_with_len}
use Rattle.rw_columns.specs.Columned.{next_of}
use Rattle.rw_app.proofs.pick.next_names.Given as goal

abbrev pub invariant-loop-object : goal.invariant-loop-object
invariant-loop-object l = l.next.items ≡ map (next_of l.columns) (range_with_len 0 l.object)
