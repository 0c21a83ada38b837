-- The lists stay, so the columns do.
use Rattle.std.proofs.Common.{◌≡◌, ◌∙◌, ◌<◌, ◌≤◌, ℕ, List, Some, ap, subst, sym, map, length, slice_get, slice_index}
use Rattle.std.specs.Vec.{vec_capacity}
use Rattle.rw_schema.specs.declared.signature.ArrowEnds.{ArrowEnds}
use Rattle.rw_schema.specs.declared.signature.AttrEnds.{AttrEnds}
use Rattle.rw_schema.specs.Signature.{Signature}
use Rattle.rw_columns.specs.ChangedColumns.{HasRoom}
use Rattle.rw_columns.specs.Changes.{ChangeLists}
use Rattle.rw_columns.specs.Columned.{Columned, column_at, AreColumns}
use Rattle.rw_columns.specs.inner.Room.{IsRoomy, KeepLists}
use Rattle.rw_columns.proofs.Rooms.{columns_kept, contents_kept, fits_kept, ok_from_three}
use Rattle.rw_columns.proofs.columns.Columns.make_room.Goals as goal
use Rattle.rw_columns.proofs.columns.Columns.make_room.Goals.{After-parts_room}

-- the columns, with so many objects
abbrev with_objects : After-parts_room → ℕ → Signature
with_objects c objects = record {
  objects = objects;
  arrows = c.self.inside.arrow_ends.items;
  attributes = c.self.inside.attribute_ends.items;
  equations = c.self.inside.equations.items;
}

-- the columns after the call
abbrev columns_of : After-parts_room → Columned
columns_of c = record {
  signature = with_objects c (length c.parts_room.new.names.items);
  names = c.parts_room.new.names.items;
  arrows = c.parts_room.new.arrows.items;
  cells = map (λ list. list.items) c.parts_room.new.cells.items;
  cell_rooms = map (λ list. vec_capacity list) c.parts_room.new.cells.items;
}

-- they hold the same lists
lists_of : (c : After-parts_room) → KeepLists c.args.self.now (columns_of c)
lists_of c = subst (λ (old : Columned). KeepLists old (columns_of c)) c.self.view_is (record {
  signature = ap (with_objects c) c.parts_room.ensures.names.count;
  names = c.parts_room.ensures.names;
  arrows = c.parts_room.ensures.arrows;
  cells = c.parts_room.ensures.cells;
})

pub invariant_of-self : goal.invariant_of-self
invariant_of-self c = columns_kept c.args.self.now (columns_of c) (lists_of c) (subst AreColumns c.self.view_is c.self.invariant)

pub returns-clause-contents : goal.returns-clause-contents
returns-clause-contents c = contents_kept c.args.self.now (columns_of c) (lists_of c)

pub returns-clause-fits : goal.returns-clause-fits
returns-clause-fits c = fits_kept c.args.self.now (columns_of c) (lists_of c) c.args.change.now c.requires

-- what each list has room for is what the change takes
has_room : (c : After-parts_room)
    → ((object : ℕ) → object < length c.parts_room.new.names.items → IsRoomy (slice_index c.next_list.result.now object) 0 (column_at c.parts_room.new.names.items object))
    → ((a : ℕ) (arrow : ArrowEnds) → slice_get c.as_slice.result.now a ≡ Some arrow
    → IsRoomy (slice_index c.next_list.result.now arrow.source.0) (slice_index c.next_list.result.now arrow.target.0) (column_at c.parts_room.new.arrows.items a))
    → ((place : ℕ) (attribute : AttrEnds) → slice_get c.as_slice-2.result.now place ≡ Some attribute
    → slice_index c.next_list.result.now attribute.object.0 ≤ slice_index (map (λ list. vec_capacity list) c.parts_room.new.cells.items) place)
    → HasRoom (columns_of c) c.args.change.now
has_room c names arrows cells =
    let next : c.next_list.result.now ≡ c.args.change.now.added.next = c.next_list.ensures ∙ ap (λ (change : ChangeLists). change.added.next) c.change.view_is in
    record {
      names = λ object known. subst (λ (list : List ℕ). slice_index list object ≤ (column_at c.parts_room.new.names.items object).room) next (names object known).room;
      arrows = λ a ends there. let given = arrows a ends (subst (λ (all : List ArrowEnds). slice_get all a ≡ Some ends) (sym c.as_slice.ensures.value) there) in
          subst (λ (list : List ℕ). (slice_index list ends.source.0 ≤ (column_at c.parts_room.new.arrows.items a).room)
          × (slice_index list ends.target.0 ≤ (column_at c.parts_room.new.arrows.items a).target_room)) next (given.room, given.target_room);
      cells = λ place ends there. subst (λ (list : List ℕ). slice_index list ends.object.0 ≤ slice_index (map (λ each. vec_capacity each) c.parts_room.new.cells.items) place)
          next (cells place ends (subst (λ (all : List AttrEnds). slice_get all place ≡ Some ends) (sym c.as_slice-2.ensures.value) there));
    }

pub returns-clause-room : goal.returns-clause-room
returns-clause-room c = ok_from_three c.parts_room.result c.parts_room.ensures.names_room c.parts_room.ensures.arrows_room c.parts_room.ensures.cells_room (has_room c)
