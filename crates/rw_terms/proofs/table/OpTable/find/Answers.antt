-- The names are those of the operations, so a name's place is that of its operation.
use Rattle.std.proofs.Common.{◌∙◌}
use Rattle.rw_terms.specs.OpEntries.{entry}
use Rattle.rw_terms.proofs.Entries.{place_of_name}
use Rattle.rw_terms.proofs.table.OpTable.find.Goals as goal

pub returns : goal.returns
returns g c = let table = c.args.self.now in
    c.number_of.ensures ∙ place_of_name entry table.ops.items table.names c.args.name.now table.named
