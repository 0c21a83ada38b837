-- The lists so far are those of the objects so far.
use Rattle.std.proofs.Common.{◌≡◌, map}
use Rattle.std.specs.List.{range_with_len}
use Rattle.rw_schema.specs.RowLists.{list_at}
use Rattle.rw_spec.specs.Homomorphism.{map_of}
use Rattle.rw_spec.specs.Tabled.{instance_of_table}
use Rattle.rw_map.proofs.composition.compose.Given as goal

abbrev pub invariant-loop-number : goal.invariant-loop-number
invariant-loop-number l =
    map (λ list. list.items) l.lists.items ≡ map (λ object. map (map_of (instance_of_table l.y) l.g object) (list_at l.f object)) (range_with_len 0 l.number)
