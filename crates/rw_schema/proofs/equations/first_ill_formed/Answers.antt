-- Where each number names something, each number of a side is an arrow.
use Rattle.std.proofs.Common.{◌≡◌, ◌∙◌, sym, None, length}
use Rattle.rw_schema.specs.SchemaFaults.{first_nameless}
use Rattle.rw_schema.proofs.Schemas.{sides_are_arrows}
use Rattle.rw_schema.proofs.equations.first_ill_formed.Goals as goal

pub apart-requires-clause-known : goal.apart-requires-clause-known
apart-requires-clause-known c =
    let none : first_nameless c.args.objects (length c.args.arrows.now) c.args.equations.now ≡ None = sym c.unknown_number.ensures ∙ c.in-None.is in
    sides_are_arrows c.args.objects (length c.args.arrows.now) c.args.equations.now none
