-- One list of the cells is written.
use Rattle.std.proofs.Common.{[], map, refl, sym}
use Rattle.rw_schema.specs.RowLists.{list_at}
use Rattle.rw_columns.proofs.CellChanges.{is_written}
use Rattle.rw_columns.proofs.Mapped.{mapped_here, mapped_other, mapped_at}
use Rattle.rw_columns.proofs.cell_changes.write_at.Goals as goal

pub returns-clause-here : goal.returns-clause-here
returns-clause-here c =
    let lists = c.args.lists.now.items in
    let place = c.args.place in
    let new = c.write_list.new.list in
    let old = c.index_mut.result.now in
    is_written c.args.entries.items c.args.entries.items old.items (list_at (map (λ list. list.items) lists) place) refl
    (sym (mapped_at (λ list. list.items) lists place old [] c.requires.known c.index_mut.ensures.value))
    new.items _ (sym (mapped_here (λ list. list.items) lists place new [] c.requires.known)) c.write_list.ensures

pub returns-clause-others : goal.returns-clause-others
returns-clause-others c = λ other apart. mapped_other (λ list. list.items) c.args.lists.now.items c.args.place other c.write_list.new.list [] apart
