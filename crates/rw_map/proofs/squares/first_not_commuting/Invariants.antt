-- The first fault of all is the first of what is left.
use Rattle.std.proofs.Common.{◌≡◌, drop}
use Rattle.rw_schema.specs.First.{first_in, fault_unless}
use Rattle.rw_schema.specs.Presentation.{ends_of_arrow}
use Rattle.rw_spec.specs.Homomorphism.{map_of}
use Rattle.rw_spec.specs.Tabled.{instance_of_table}
use Rattle.rw_map.specs.HomFaults.{commutes_at, square_fault}
use Rattle.rw_map.specs.declared.fault.HomFault.TheVariants.{NotNatural}
use Rattle.rw_map.proofs.squares.first_not_commuting.Given as goal

abbrev pub invariant-loop-position : goal.invariant-loop-position
invariant-loop-position l =
    let X = instance_of_table l.x in
    let Y = instance_of_table l.y in
    let ends = ends_of_arrow l.ends in
    square_fault X Y (map_of X l.map) l.arrow.0 ends
    ≡ first_in (λ position x. fault_unless (commutes_at X Y (map_of X l.map) l.arrow.0 ends x) (NotNatural l.arrow position)) l.position (drop l.position (X.names ends.source.0))
