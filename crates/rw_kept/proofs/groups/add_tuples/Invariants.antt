-- The groups are those of the tuples so far.
use Rattle.std.proofs.Common.{take, map, slice_index}
use Rattle.std.specs.Str.{bytes_eq}
use Rattle.rw_kept.specs.inner.Groups.{AreGroups}
use Rattle.rw_kept.proofs.groups.add_tuples.Given as goal

abbrev pub invariant-loop-tuple : goal.invariant-loop-tuple
invariant-loop-tuple l =
    AreGroups (λ m q. bytes_eq (map (slice_index q) l.places) m) (take l.tuple-index l.tuples) l.matches (map (λ group. group.items) l.groups)
