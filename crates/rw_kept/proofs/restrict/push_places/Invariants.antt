-- The places of the parts so far stand behind the others.
use Rattle.std.proofs.Common.{◌≡◌, ◌++◌, map, take}
use Rattle.rw_pattern.specs.PatternLists.{place_of}
use Rattle.rw_kept.proofs.restrict.push_places.Given as goal

abbrev pub invariant-loop-part : goal.invariant-loop-part
invariant-loop-part l = l.places.items ≡ l.initial.places.items ++ map (place_of l.pattern l.object.0) (take l.part-index l.parts)
