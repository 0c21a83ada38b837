-- What is found is the first clash of the attributes so far.
use Rattle.std.proofs.Common.{map}
use Rattle.rw_schema.specs.Presentation.{ends_of_attribute}
use Rattle.rw_classes.specs.Clashes.{FirstOf}
use Rattle.rw_classes.proofs.clashes.first_clash.Given as goal

abbrev pub invariant-loop-place : goal.invariant-loop-place
invariant-loop-place l = FirstOf l.place (map ends_of_attribute l.attributes) l.merged l.found
