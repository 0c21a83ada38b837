-- The cells of attributes are read at the names of their objects.
use Rattle.std.proofs.Common.{◌≡◌, ◌∙◌, [], Option, Vec, Global, ℕ, length, map, ap, subst}
use Rattle.std.proofs.lemmas.Result.{IfOk-weaker}
use Rattle.rw_schema.specs.declared.atom.Atom.{Atom}
use Rattle.rw_columns.specs.Columned.{Columned, AreColumns}
use Rattle.rw_columns.specs.Kept.{lists_of_columns}
use Rattle.rw_columns.specs.inner.Filled.{AreAll}
use Rattle.rw_columns.specs.inner.Read.{AreCellsIn}
use Rattle.rw_columns.proofs.ListsRead.{cells_within, cells_read}
use Rattle.rw_columns.proofs.columns.Columns.list_cells.Goals as goal

pub read_cells-requires-clause-within : goal.read_cells-requires-clause-within
read_cells-requires-clause-within g c =
    let K : Columned = c.args.self.now in
    let sound = subst AreColumns c.self.view_is c.self.invariant in
    let lists = ap (map (λ (list : Vec (Option Atom) Global). list.items)) c.as_slice.ensures.value ∙ ap (λ (k : Columned). k.cells) c.self.view_is in
    let ends = c.as_slice-2.ensures.value ∙ ap (λ (k : Columned). k.signature.attributes) c.self.view_is in
    rw (lists, ends) (cells_within K sound (map (λ (list : Vec ℕ Global). list.items) c.args.names.now) c.requires)

pub returns : goal.returns
returns g c =
    let K : Columned = c.args.self.now in
    let sound = subst AreColumns c.self.view_is c.self.invariant in
    let cell_items = map (λ (list : Vec (Option Atom) Global). list.items) in
    let lists = ap cell_items c.as_slice.ensures.value ∙ ap (λ (k : Columned). k.cells) c.self.view_is in
    let ends = c.as_slice-2.ensures.value ∙ ap (λ (k : Columned). k.signature.attributes) c.self.view_is in
    let names = map (λ (list : Vec ℕ Global). list.items) c.args.names.now in
    IfOk-weaker c.read_cells.result
    (λ cells. AreAll [] (AreCellsIn K.cells (map (λ each. each.object.0) K.signature.attributes) names) (length K.signature.attributes) (cell_items cells.items))
    (λ cells. cell_items cells.items ≡ (lists_of_columns K).cells)
    (λ cells all. cells_read K sound names c.requires (cell_items cells.items) all) (rw (lists, ends) at c.read_cells.ensures)
