-- One list of the cells has more room.
use Rattle.std.proofs.Common.{◌∙◌, ap}
use Rattle.std.proofs.Math.Seq.{map-set_same}
use Rattle.std.specs.Vec.{vec_capacity}
use Rattle.rw_columns.proofs.Mapped.{mapped_here, mapped_other}
use Rattle.rw_columns.proofs.room.list_room.Goals as goal

pub returns-clause-kept : goal.returns-clause-kept
returns-clause-kept c =
    map-set_same (λ list. list.items) c.args.lists.now.items c.args.place c.raise_cells.new.list c.index_mut.result.now
    (c.raise_cells.ensures.kept ∙ ap (λ list. list.items) c.index_mut.ensures.value)

pub returns-clause-others : goal.returns-clause-others
returns-clause-others c = λ other apart. mapped_other (λ list. vec_capacity list) c.args.lists.now.items c.args.place other c.raise_cells.new.list 0 apart

pub returns-clause-room : goal.returns-clause-room
returns-clause-room c = rw (mapped_here (λ list. vec_capacity list) c.args.lists.now.items c.args.place c.raise_cells.new.list 0 c.requires) c.raise_cells.ensures.room
