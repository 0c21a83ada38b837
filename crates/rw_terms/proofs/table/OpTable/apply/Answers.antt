-- The operation at the place answers what its code says.
use Rattle.std.proofs.Common.{◌≡◌, ◌<◌, Some, length, slice_get, arith, to_z-of_z}
use Rattle.std.proofs.lemmas.List.{length-map}
use Rattle.rw_terms.specs.OpEntries.{entry, entries}
use Rattle.rw_terms.specs.OpTables.{codes_of}
use Rattle.rw_terms.proofs.Entries.{code_at}
use Rattle.rw_terms.proofs.table.OpTable.apply.Goals as goal

pub returns : goal.returns
returns g c =
    let table = c.args.self.now in
    let op = c.index.result.now in
    let within : c.args.index < length table.ops.items = rw (length-map table.ops.items entry) at c.requires in
    let code : slice_get (codes_of (entries table)) c.args.index ≡ Some op.code = code_at entry table.ops.items c.args.index op within c.index.ensures in
    rw code (grind (arith, to_z-of_z, c.apply.ensures))
