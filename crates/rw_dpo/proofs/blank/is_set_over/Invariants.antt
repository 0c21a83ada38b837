-- The cells of the parts so far with the name are set.
use Rattle.std.proofs.Common.{◌≡◌, true}
use Rattle.std.specs.List.{list_all, range_with_len}
use Rattle.rw_dpo.specs.inner.Blank.{is_set_beside}
use Rattle.rw_dpo.proofs.blank.is_set_over.Given as goal

abbrev pub invariant-loop-part : goal.invariant-loop-part
invariant-loop-part l = list_all (is_set_beside l.rule l.tuple l.object.0 l.attribute.0 l.name) (range_with_len 0 l.part) ≡ true
