-- The names so far.
use Rattle.std.proofs.Common.{◌≡◌, Some, map, take}
use Rattle.rw_glue.proofs.kept.kept_names.Given as goal

abbrev pub invariant-loop-name : goal.invariant-loop-name
invariant-loop-name l = map (λ name. Some name) l.names.items ≡ take l.name-index l.of_keep
