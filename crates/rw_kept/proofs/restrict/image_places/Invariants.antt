-- The places of the images of the objects so far.
use Rattle.std.proofs.Common.{◌≡◌, take}
use Rattle.rw_schema.specs.First.{flat_map_in}
use Rattle.rw_rule.specs.RuleParts.{condition_of_parts}
use Rattle.rw_kept.specs.Conditions.{places_of}
use Rattle.rw_kept.proofs.restrict.image_places.Given as goal

abbrev pub invariant-loop-number : goal.invariant-loop-number
invariant-loop-number l = l.places.items ≡ flat_map_in (places_of (condition_of_parts l.condition)) 0 (take l.number l.left.sizes)
