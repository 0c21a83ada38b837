-- There are at most as many ascending numbers as there are numbers below their bound.
use Rattle.std.proofs.Common.{◌^◌, arith}
use Rattle.rw_spec.proofs.Ascending.{ascends_few}
use Rattle.rw_map.proofs.look.count_of.Goals as goal

pub returns-clause-few : goal.returns-clause-few
returns-clause-few c = ascends_few c.args.names.now (2 ^ 32) c.requires (λ k within. omega (arith, c.type_inv.names k))
