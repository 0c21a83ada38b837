-- The parts of the change and of the columns, put together.
use Rattle.std.proofs.Common.{◌≡◌, ◌∙◌, ℕ, List, Option, length, map, sym, ap, subst}
use Rattle.std.specs.Vec.{vec_capacity}
use Rattle.rw_schema.specs.declared.atom.Atom.{Atom}
use Rattle.rw_schema.specs.RowLists.{RowLists}
use Rattle.rw_schema.specs.Signature.{Signature}
use Rattle.rw_columns.specs.Changes.{ChangeLists}
use Rattle.rw_columns.specs.Columned.{Columned, AreColumns}
use Rattle.rw_columns.specs.inner.Carried.{AreAllNamesChanged, AreAllArrowsChanged, AreAllRenewed}
use Rattle.rw_columns.proofs.Committed.{IsCommitted, columns_committed, are_changed}
use Rattle.rw_columns.proofs.MayCommit.{may_names, may_arrows, may_renew, may_write}
use Rattle.rw_columns.proofs.columns.Columns.commit.Goals as goal
use Rattle.rw_columns.proofs.columns.Columns.commit.Goals.{After-drop-removed}

pub change_all_names-requires : goal.change_all_names-requires
change_all_names-requires c =
    let is = subst AreColumns c.self.view_is c.self.invariant in
    let removed_is : map (λ each. each.items) c.as_slice.result.now ≡ c.args.change.removed = ap (λ list. map (λ each. each.items) list) c.as_slice.ensures.value ∙ ap (λ (change : ChangeLists). change.removed) c.change.view_is in
    let added_is : map (λ each. each.items) c.as_slice-2.result.now ≡ c.args.change.added.names = ap (λ list. map (λ each. each.items) list) c.as_slice-2.ensures.value ∙ ap (λ (rows : RowLists). rows.names) (sym c.into_lists-names.ensures) ∙ ap (λ (change : ChangeLists). change.added.names) c.change.view_is in
    let next_is : c.as_slice-3.result.now ≡ c.args.change.added.next = c.as_slice-3.ensures.value ∙ ap (λ (rows : RowLists). rows.next) (sym c.into_lists-names.ensures) ∙ ap (λ (change : ChangeLists). change.added.next) c.change.view_is in
    let names_is : c.self.inside.names.items ≡ c.args.self.now.names = ap (λ (columns : Columned). columns.names) c.self.view_is in
    rw (removed_is, added_is, next_is, names_is) (may_names c.args.self.now c.args.change is c.requires.fits c.requires.room)

pub change_all_arrows-requires : goal.change_all_arrows-requires
change_all_arrows-requires c =
    let is = subst AreColumns c.self.view_is c.self.invariant in
    let ends_is : c.as_slice-arrow_ends.result.now ≡ c.args.self.now.signature.arrows = c.as_slice-arrow_ends.ensures.value ∙ ap (λ (columns : Columned). columns.signature.arrows) c.self.view_is in
    let removed_is : map (λ each. each.items) c.as_slice-4.result.now ≡ c.args.change.removed = ap (λ list. map (λ each. each.items) list) c.as_slice-4.ensures.value ∙ ap (λ (change : ChangeLists). change.removed) c.change.view_is in
    let rows_is : map (λ each. each.items) c.change.inside.rows.items ≡ c.args.change.rows = ap (λ (change : ChangeLists). change.rows) c.change.view_is in
    let added_is : map (λ each. each.items) c.as_slice-5.result.now ≡ c.args.change.added.names = ap (λ list. map (λ each. each.items) list) c.as_slice-5.ensures.value ∙ ap (λ (rows : RowLists). rows.names) (sym c.into_lists-names.ensures) ∙ ap (λ (change : ChangeLists). change.added.names) c.change.view_is in
    let images_is : map (λ each. each.items) c.as_slice-6.result.now ≡ c.args.change.added.arrows = ap (λ list. map (λ each. each.items) list) c.as_slice-6.ensures.value ∙ ap (λ (rows : RowLists). rows.arrows) (sym c.into_lists-names.ensures) ∙ ap (λ (change : ChangeLists). change.added.arrows) c.change.view_is in
    let next_is : c.as_slice-7.result.now ≡ c.args.change.added.next = c.as_slice-7.ensures.value ∙ ap (λ (rows : RowLists). rows.next) (sym c.into_lists-names.ensures) ∙ ap (λ (change : ChangeLists). change.added.next) c.change.view_is in
    let arrows_is : c.self.inside.arrows.items ≡ c.args.self.now.arrows = ap (λ (columns : Columned). columns.arrows) c.self.view_is in
    rw (ends_is, removed_is, rows_is, added_is, images_is, next_is, arrows_is) (may_arrows c.args.self.now c.args.change is c.requires.fits c.requires.room)

pub renew_all-requires : goal.renew_all-requires
renew_all-requires c =
    let is = subst AreColumns c.self.view_is c.self.invariant in
    let ends_is : c.as_slice-attribute_ends.result.now ≡ c.args.self.now.signature.attributes = c.as_slice-attribute_ends.ensures.value ∙ ap (λ (columns : Columned). columns.signature.attributes) c.self.view_is in
    let removed_is : map (λ each. each.items) c.as_slice-8.result.now ≡ c.args.change.removed = ap (λ list. map (λ each. each.items) list) c.as_slice-8.ensures.value ∙ ap (λ (change : ChangeLists). change.removed) c.change.view_is in
    let added_is : map (λ each. each.items) c.as_slice-9.result.now ≡ c.args.change.added.names = ap (λ list. map (λ each. each.items) list) c.as_slice-9.ensures.value ∙ ap (λ (rows : RowLists). rows.names) (sym c.into_lists-names.ensures) ∙ ap (λ (change : ChangeLists). change.added.names) c.change.view_is in
    let atoms_is : map (λ each. each.items) c.into_lists-names.result.2.items ≡ c.args.change.added.cells = ap (λ (rows : RowLists). rows.cells) (sym c.into_lists-names.ensures) ∙ ap (λ (change : ChangeLists). change.added.cells) c.change.view_is in
    let next_is : c.as_slice-10.result.now ≡ c.args.change.added.next = c.as_slice-10.ensures.value ∙ ap (λ (rows : RowLists). rows.next) (sym c.into_lists-names.ensures) ∙ ap (λ (change : ChangeLists). change.added.next) c.change.view_is in
    let cells_is : map (λ each. each.items) c.self.inside.cells.items ≡ c.args.self.now.cells = ap (λ (columns : Columned). columns.cells) c.self.view_is in
    let rooms_is : map (λ each. vec_capacity each) c.self.inside.cells.items ≡ c.args.self.now.cell_rooms = ap (λ (columns : Columned). columns.cell_rooms) c.self.view_is in
    rw (ends_is, removed_is, added_is, atoms_is, next_is, rooms_is, cells_is) (may_renew c.args.self.now c.args.change is c.requires.fits c.requires.room)

pub write_all-requires : goal.write_all-requires
write_all-requires c =
    let is = subst AreColumns c.self.view_is c.self.invariant in
    let ends_is : c.as_slice-attribute_ends.result.now ≡ c.args.self.now.signature.attributes = c.as_slice-attribute_ends.ensures.value ∙ ap (λ (columns : Columned). columns.signature.attributes) c.self.view_is in
    let removed_is : map (λ each. each.items) c.as_slice-8.result.now ≡ c.args.change.removed = ap (λ list. map (λ each. each.items) list) c.as_slice-8.ensures.value ∙ ap (λ (change : ChangeLists). change.removed) c.change.view_is in
    let added_is : map (λ each. each.items) c.as_slice-9.result.now ≡ c.args.change.added.names = ap (λ list. map (λ each. each.items) list) c.as_slice-9.ensures.value ∙ ap (λ (rows : RowLists). rows.names) (sym c.into_lists-names.ensures) ∙ ap (λ (change : ChangeLists). change.added.names) c.change.view_is in
    let atoms_is : map (λ each. each.items) c.into_lists-names.result.2.items ≡ c.args.change.added.cells = ap (λ (rows : RowLists). rows.cells) (sym c.into_lists-names.ensures) ∙ ap (λ (change : ChangeLists). change.added.cells) c.change.view_is in
    let next_is : c.as_slice-10.result.now ≡ c.args.change.added.next = c.as_slice-10.ensures.value ∙ ap (λ (rows : RowLists). rows.next) (sym c.into_lists-names.ensures) ∙ ap (λ (change : ChangeLists). change.added.next) c.change.view_is in
    let cells_is : map (λ each. each.items) c.self.inside.cells.items ≡ c.args.self.now.cells = ap (λ (columns : Columned). columns.cells) c.self.view_is in
    let entries_is : map (λ each. each.items) c.change.inside.cells.items ≡ c.args.change.cells = ap (λ (change : ChangeLists). change.cells) c.change.view_is in
    let mid : List (List (Option Atom)) = map (λ each. each.items) c.renew_all.new.lists.items in
    rw entries_is (may_write c.args.self.now c.args.change is c.requires.fits mid (rw (ends_is, removed_is, added_is, atoms_is, next_is, cells_is) at c.renew_all.ensures))

-- the columns over so many objects
abbrev with_objects : After-drop-removed → ℕ → Signature
with_objects c objects = record {
  objects = objects;
  arrows = c.self.inside.arrow_ends.items;
  attributes = c.self.inside.attribute_ends.items;
  equations = c.self.inside.equations.items;
}

-- the columns after the calls
abbrev columns_of : After-drop-removed → Columned
columns_of c = record {
  signature = with_objects c (length c.change_all_names.new.columns.items);
  names = c.change_all_names.new.columns.items;
  arrows = c.change_all_arrows.new.columns.items;
  cells = map (λ list. list.items) c.write_all.new.lists.items;
  cell_rooms = map (λ list. vec_capacity list) c.write_all.new.lists.items;
}

-- the names are changed
names_of : (c : After-drop-removed) → AreAllNamesChanged c.args.change.removed c.args.change.added.names c.args.change.added.next c.args.self.now.names
    c.change_all_names.new.columns.items
names_of c =
    let removed_is : map (λ each. each.items) c.as_slice.result.now ≡ c.args.change.removed = ap (λ list. map (λ each. each.items) list) c.as_slice.ensures.value ∙ ap (λ (change : ChangeLists). change.removed) c.change.view_is in
    let added_is : map (λ each. each.items) c.as_slice-2.result.now ≡ c.args.change.added.names = ap (λ list. map (λ each. each.items) list) c.as_slice-2.ensures.value ∙ ap (λ (rows : RowLists). rows.names) (sym c.into_lists-names.ensures) ∙ ap (λ (change : ChangeLists). change.added.names) c.change.view_is in
    let next_is : c.as_slice-3.result.now ≡ c.args.change.added.next = c.as_slice-3.ensures.value ∙ ap (λ (rows : RowLists). rows.next) (sym c.into_lists-names.ensures) ∙ ap (λ (change : ChangeLists). change.added.next) c.change.view_is in
    let names_is : c.self.inside.names.items ≡ c.args.self.now.names = ap (λ (columns : Columned). columns.names) c.self.view_is in
    rw (removed_is, added_is, next_is, names_is) at c.change_all_names.ensures

-- the arrows are changed
arrows_of : (c : After-drop-removed) → AreAllArrowsChanged c.args.self.now.signature.arrows c.args.change.removed c.args.change.rows c.args.change.added.names
    c.args.change.added.arrows c.args.change.added.next c.args.self.now.arrows c.change_all_arrows.new.columns.items
arrows_of c =
    let ends_is : c.as_slice-arrow_ends.result.now ≡ c.args.self.now.signature.arrows = c.as_slice-arrow_ends.ensures.value ∙ ap (λ (columns : Columned). columns.signature.arrows) c.self.view_is in
    let removed_is : map (λ each. each.items) c.as_slice-4.result.now ≡ c.args.change.removed = ap (λ list. map (λ each. each.items) list) c.as_slice-4.ensures.value ∙ ap (λ (change : ChangeLists). change.removed) c.change.view_is in
    let rows_is : map (λ each. each.items) c.change.inside.rows.items ≡ c.args.change.rows = ap (λ (change : ChangeLists). change.rows) c.change.view_is in
    let added_is : map (λ each. each.items) c.as_slice-5.result.now ≡ c.args.change.added.names = ap (λ list. map (λ each. each.items) list) c.as_slice-5.ensures.value ∙ ap (λ (rows : RowLists). rows.names) (sym c.into_lists-names.ensures) ∙ ap (λ (change : ChangeLists). change.added.names) c.change.view_is in
    let images_is : map (λ each. each.items) c.as_slice-6.result.now ≡ c.args.change.added.arrows = ap (λ list. map (λ each. each.items) list) c.as_slice-6.ensures.value ∙ ap (λ (rows : RowLists). rows.arrows) (sym c.into_lists-names.ensures) ∙ ap (λ (change : ChangeLists). change.added.arrows) c.change.view_is in
    let next_is : c.as_slice-7.result.now ≡ c.args.change.added.next = c.as_slice-7.ensures.value ∙ ap (λ (rows : RowLists). rows.next) (sym c.into_lists-names.ensures) ∙ ap (λ (change : ChangeLists). change.added.next) c.change.view_is in
    let arrows_is : c.self.inside.arrows.items ≡ c.args.self.now.arrows = ap (λ (columns : Columned). columns.arrows) c.self.view_is in
    rw (ends_is, removed_is, rows_is, added_is, images_is, next_is, arrows_is) at c.change_all_arrows.ensures

-- the cells are renewed
renewed_of : (c : After-drop-removed) → AreAllRenewed c.args.self.now.signature.attributes c.args.change.removed c.args.change.added.names c.args.change.added.cells
    c.args.change.added.next c.args.self.now.cells (map (λ list. list.items) c.renew_all.new.lists.items)
renewed_of c =
    let ends_is : c.as_slice-attribute_ends.result.now ≡ c.args.self.now.signature.attributes = c.as_slice-attribute_ends.ensures.value ∙ ap (λ (columns : Columned). columns.signature.attributes) c.self.view_is in
    let removed_is : map (λ each. each.items) c.as_slice-8.result.now ≡ c.args.change.removed = ap (λ list. map (λ each. each.items) list) c.as_slice-8.ensures.value ∙ ap (λ (change : ChangeLists). change.removed) c.change.view_is in
    let added_is : map (λ each. each.items) c.as_slice-9.result.now ≡ c.args.change.added.names = ap (λ list. map (λ each. each.items) list) c.as_slice-9.ensures.value ∙ ap (λ (rows : RowLists). rows.names) (sym c.into_lists-names.ensures) ∙ ap (λ (change : ChangeLists). change.added.names) c.change.view_is in
    let atoms_is : map (λ each. each.items) c.into_lists-names.result.2.items ≡ c.args.change.added.cells = ap (λ (rows : RowLists). rows.cells) (sym c.into_lists-names.ensures) ∙ ap (λ (change : ChangeLists). change.added.cells) c.change.view_is in
    let next_is : c.as_slice-10.result.now ≡ c.args.change.added.next = c.as_slice-10.ensures.value ∙ ap (λ (rows : RowLists). rows.next) (sym c.into_lists-names.ensures) ∙ ap (λ (change : ChangeLists). change.added.next) c.change.view_is in
    let cells_is : map (λ each. each.items) c.self.inside.cells.items ≡ c.args.self.now.cells = ap (λ (columns : Columned). columns.cells) c.self.view_is in
    rw (ends_is, removed_is, added_is, atoms_is, next_is, cells_is) at c.renew_all.ensures

-- the change is carried out
committed : (c : After-drop-removed) → IsCommitted c.args.self.now c.args.change (columns_of c)
committed c =
    let entries_is : map (λ each. each.items) c.change.inside.cells.items ≡ c.args.change.cells = ap (λ (change : ChangeLists). change.cells) c.change.view_is in
    record {
      signature = ap (with_objects c) c.change_all_names.ensures.count ∙ ap (λ (columns : Columned). columns.signature) c.self.view_is;
      names = names_of c;
      arrows = arrows_of c;
      mid = map (λ list. list.items) c.renew_all.new.lists.items;
      renewed = renewed_of c;
      written = rw entries_is at c.write_all.ensures;
    }

pub invariant_of-self : goal.invariant_of-self
invariant_of-self c = columns_committed c.args.self.now c.args.change (subst AreColumns c.self.view_is c.self.invariant) c.requires.fits (columns_of c) (committed c)

pub returns : goal.returns
returns c = are_changed c.args.self.now c.args.change (subst AreColumns c.self.view_is c.self.invariant) c.requires.fits (columns_of c) (committed c)
