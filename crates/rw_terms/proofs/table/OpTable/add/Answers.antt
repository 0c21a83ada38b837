-- The names are those of the operations, so a name is refused exactly where an operation has it.
use Rattle.std.proofs.Common.{◌≡◌, true, false, [], ◌∷◌, ◌++◌, map, refl, ◌∙◌, sym}
use Rattle.std.proofs.lemmas.List.{map-append}
use Rattle.std.specs.List.{list_any}
use Rattle.std.specs.Str.{bytes_eq}
use Rattle.rw_terms.specs.OpEntries.{entry}
use Rattle.rw_terms.proofs.Entries.{has_name}
use Rattle.rw_terms.proofs.table.OpTable.add.Goals as goal

pub returns-then-has : goal.returns-then-has
returns-then-has g c =
    let table = c.args.self.now in
    let name = c.args.op.name in
    let there : list_any (bytes_eq name) table.names ≡ true = rw (← c.name.ensures) (sym c.has.ensures ∙ c.if-has.true) in
    (sym (has_name entry table.ops.items table.names name table.named) ∙ there, refl)

pub returns : goal.returns
returns g c =
    let table = c.args.self.now in
    let op = c.args.op in
    let missing : list_any (bytes_eq op.name) table.names ≡ false = rw (← c.name.ensures) (sym c.has.ensures ∙ c.if-has.false) in
    let added : map entry c.put.new.ops.items ≡ map entry table.ops.items ++ entry op ∷ [] =
    rw (c.put.ensures, c.in_ok-make_room.ensures.items) (map-append entry table.ops.items (op ∷ [])) in
    (sym (has_name entry table.ops.items table.names op.name table.named) ∙ missing, added)
