-- The cell is found where the change says that it stands.
use Rattle.std.proofs.Common.{◌≡◌, ◌∙◌, ℕ, List, None, Option, length, sym, ap, arith, slice_index_or}
use Rattle.std.proofs.lemmas.List.{length-map}
use Rattle.rw_schema.specs.declared.atom.Atom.{Atom}
use Rattle.rw_schema.specs.RowLists.{list_at}
use Rattle.rw_schema.specs.Signature.{holder_of}
use Rattle.rw_columns.specs.Changes.{beside, entry_names}
use Rattle.rw_columns.specs.Columned.{instance_of_columns}
use Rattle.rw_columns.proofs.Changed.{cells_beside, cells_differ}
use Rattle.rw_delta.proofs.Live.{was_there}
use Rattle.rw_delta.proofs.Looked.{looked_at, looked_beside, looked_old, place_within}
use Rattle.rw_delta.proofs.reads.cell_after.Goals as goal

pub atom_at-requires : goal.atom_at-requires
atom_at-requires g c =
    let change = c.args.change.now in
    let names = list_at change.added.names (holder_of c.args.columns.now.signature c.args.attribute.0) in
    let found = rw c.holder-holder.ensures.holder at (sym c.added_place.ensures ∙ c.in-Some.is) in
    let within = place_within names c.args.name c.in-Some.place found in
    rw c.added_cells.ensures (omega (arith, within, cells_beside c.args.columns.now change c.requires.fits c.args.attribute.0 c.requires.attribute))

pub returns-in-Some-clause-cell : goal.returns-in-Some-clause-cell
returns-in-Some-clause-cell g c =
    let change = c.args.change.now in
    let names = list_at change.added.names (holder_of c.args.columns.now.signature c.args.attribute.0) in
    let found = rw c.holder-holder.ensures.holder at (sym c.added_place.ensures ∙ c.in-Some.is) in
    let old = beside ((instance_of_columns c.args.columns.now).cell c.args.attribute.0 c.args.name) (list_at change.cells c.args.attribute.0) c.args.name in
    c.atom_at.ensures
    ∙ ap (λ (cells : List (Option Atom)). slice_index_or cells c.in-Some.place None) c.added_cells.ensures
    ∙ looked_at old names (list_at change.added.cells c.args.attribute.0) c.args.name c.in-Some.place None
    (cells_beside c.args.columns.now change c.requires.fits c.args.attribute.0 c.requires.attribute) found

pub place_of_entry-requires : goal.place_of_entry-requires
place_of_entry-requires g c =
    rw c.new_cells-cells.ensures (cells_differ c.args.columns.now c.args.change.now c.requires.fits c.args.attribute.0 c.requires.attribute).ascend

pub cell_at-requires : goal.cell_at-requires
cell_at-requires g c =
    let cells = c.new_cells-cells.result.now in
    let found = sym c.place_of_entry.ensures ∙ c.in-Some-place_of_entry.is in
    let within = place_within (entry_names cells) c.args.name c.in-Some-place_of_entry.place found in
    let long : length (entry_names cells) ≡ length cells = length-map cells (λ (entry : ℕ × Option Atom). entry.0) in
    omega (arith, within, long)

pub returns-in-Some-place_of_entry-clause-cell : goal.returns-in-Some-place_of_entry-clause-cell
returns-in-Some-place_of_entry-clause-cell g c =
    let change = c.args.change.now in
    let names = list_at change.added.names (holder_of c.args.columns.now.signature c.args.attribute.0) in
    let apart = rw c.holder-holder.ensures.holder at (sym c.added_place.ensures ∙ c.in_default.is) in
    let found = rw c.new_cells-cells.ensures at (sym c.place_of_entry.ensures ∙ c.in-Some-place_of_entry.is) in
    c.cell_at.ensures
    ∙ ap (λ (cells : List (ℕ × Option Atom)). (slice_index_or cells c.in-Some-place_of_entry.place (0, None)).1) c.new_cells-cells.ensures
    ∙ looked_beside ((instance_of_columns c.args.columns.now).cell c.args.attribute.0 c.args.name) (list_at change.cells c.args.attribute.0) names
    (list_at change.added.cells c.args.attribute.0) c.args.name c.in-Some-place_of_entry.place apart (0, None) found

pub cell-requires-clause-name : goal.cell-requires-clause-name
cell-requires-clause-name g c =
    let apart = rw c.holder-holder.ensures.holder at (sym c.added_place.ensures ∙ c.in_default.is) in
    was_there c.args.columns.now c.args.change.now c.requires.fits (holder_of c.args.columns.now.signature c.args.attribute.0) c.args.name c.requires.name apart

pub returns-clause-cell : goal.returns-clause-cell
returns-clause-cell g c =
    let change = c.args.change.now in
    let names = list_at change.added.names (holder_of c.args.columns.now.signature c.args.attribute.0) in
    let apart = rw c.holder-holder.ensures.holder at (sym c.added_place.ensures ∙ c.in_default.is) in
    let unwritten = rw c.new_cells-cells.ensures at (sym c.place_of_entry.ensures ∙ c.in_default-place_of_entry.is) in
    c.cell.ensures.cell
    ∙ looked_old ((instance_of_columns c.args.columns.now).cell c.args.attribute.0 c.args.name) (list_at change.cells c.args.attribute.0) names (list_at change.added.cells c.args.attribute.0)
    c.args.name apart unwritten
