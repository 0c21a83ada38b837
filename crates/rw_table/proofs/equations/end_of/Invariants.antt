-- The whole path leads where what is left of it leads from the name that it has come to.
use Rattle.std.proofs.Common.{◌≡◌, drop}
use Rattle.rw_spec.specs.Instance.{follow}
use Rattle.rw_table.specs.inner.Along.{instance_along}
use Rattle.rw_table.proofs.equations.end_of.Given as goal

abbrev pub invariant-loop-arrow : goal.invariant-loop-arrow
invariant-loop-arrow l =
    follow (instance_along l.arrows l.rows) l.path l.name ≡ follow (instance_along l.arrows l.rows) (drop l.arrow-index l.path) l.end
