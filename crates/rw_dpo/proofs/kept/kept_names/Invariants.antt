-- The names of the parts so far.
use Rattle.std.proofs.Common.{◌≡◌, Some, map}
use Rattle.std.specs.List.{range_with_len}
use Rattle.rw_dpo.specs.Contexts.{name_of_kept}
use Rattle.rw_dpo.proofs.kept.kept_names.Given as goal

abbrev pub invariant-loop-part : goal.invariant-loop-part
invariant-loop-part l = l.names.items ≡ map (λ part. Some (name_of_kept l.rule l.tuple l.object.0 part)) (range_with_len 0 l.part)
