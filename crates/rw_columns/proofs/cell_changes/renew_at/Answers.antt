-- One list of the cells is renewed.
use Rattle.std.proofs.Common.{[], map, slice_index, refl, sym}
use Rattle.std.specs.Vec.{vec_capacity}
use Rattle.rw_schema.specs.RowLists.{list_at}
use Rattle.rw_columns.proofs.CellChanges.{is_renewed}
use Rattle.rw_columns.proofs.Mapped.{mapped_here, mapped_other, mapped_at}
use Rattle.rw_columns.proofs.cell_changes.renew_at.Goals as goal

pub returns-clause-here : goal.returns-clause-here
returns-clause-here c =
    let lists = c.args.lists.now.items in
    let place = c.args.place in
    let new = c.renew_list.new.list in
    let old = c.index_mut.result.now in
    is_renewed (slice_index c.args.next.now c.args.attribute.object.0) c.names_at-off.result.now _ c.names_at-on.result.now _ c.args.cells.items c.args.cells.items old.items
    (list_at (map (λ list. list.items) lists) place) c.names_at-off.ensures c.names_at-on.ensures refl
    (sym (mapped_at (λ list. list.items) lists place old [] c.requires.known c.index_mut.ensures.value))
    new.items _ (sym (mapped_here (λ list. list.items) lists place new [] c.requires.known)) c.renew_list.ensures

pub returns-clause-others : goal.returns-clause-others
returns-clause-others c = λ other apart. mapped_other (λ list. list.items) c.args.lists.now.items c.args.place other c.renew_list.new.list [] apart

pub returns-clause-rooms : goal.returns-clause-rooms
returns-clause-rooms c = λ other apart. mapped_other (λ list. vec_capacity list) c.args.lists.now.items c.args.place other c.renew_list.new.list 0 apart
