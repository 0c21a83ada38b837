-- The names are those of the items that were passed, and the first name of all that comes twice is the first of what is left.
use Rattle.std.proofs.Common.{◌≡◌, map, take, drop}
use Rattle.rw_schema.specs.First.{first_in}
use Rattle.rw_schema.specs.SchemaFaults.{first_twice}
use Rattle.rw_schema.proofs.Schemas.{twice_at}
use Rattle.rw_schema.proofs.schema.index_names.Given as goal

abbrev pub invariant-loop-place : goal.invariant-loop-place
invariant-loop-place g l = let name = g.T.Named.name_of in record {
  passed : l.names ≡ map name (take l.place l.items);
  left : first_twice name l.section l.items ≡ first_in (twice_at name l.section l.items) l.place (drop l.place l.items);
}
