-- The columns of arrows are read at the names of their sources.
use Rattle.std.proofs.Common.{◌≡◌, ◌∙◌, [], Vec, Global, ℕ, length, map, ap, subst}
use Rattle.std.proofs.lemmas.Result.{IfOk-weaker}
use Rattle.rw_columns.specs.Columned.{Columned, AreColumns}
use Rattle.rw_columns.specs.Kept.{lists_of_columns}
use Rattle.rw_columns.specs.inner.Filled.{AreAll}
use Rattle.rw_columns.specs.inner.Read.{IsRowIn}
use Rattle.rw_columns.proofs.ListsRead.{rows_within, rows_read}
use Rattle.rw_columns.proofs.columns.Columns.list_rows.Goals as goal

pub read_rows-requires-clause-within : goal.read_rows-requires-clause-within
read_rows-requires-clause-within g c =
    let K : Columned = c.args.self.now in
    let sound = subst AreColumns c.self.view_is c.self.invariant in
    let columns = c.as_slice.ensures.value ∙ ap (λ (k : Columned). k.arrows) c.self.view_is in
    let ends = c.as_slice-2.ensures.value ∙ ap (λ (k : Columned). k.signature.arrows) c.self.view_is in
    rw (columns, ends) (rows_within K sound (map (λ (list : Vec ℕ Global). list.items) c.args.names.now) c.requires)

pub returns : goal.returns
returns g c =
    let K : Columned = c.args.self.now in
    let sound = subst AreColumns c.self.view_is c.self.invariant in
    let columns = c.as_slice.ensures.value ∙ ap (λ (k : Columned). k.arrows) c.self.view_is in
    let ends = c.as_slice-2.ensures.value ∙ ap (λ (k : Columned). k.signature.arrows) c.self.view_is in
    let items = map (λ (list : Vec ℕ Global). list.items) in
    let names = items c.args.names.now in
    IfOk-weaker c.read_rows.result
    (λ rows. AreAll [] (IsRowIn K.arrows (map (λ each. each.source.0) K.signature.arrows) names) (length K.signature.arrows) (items rows.items))
    (λ rows. items rows.items ≡ (lists_of_columns K).arrows)
    (λ rows all. rows_read K sound names c.requires (items rows.items) all) (rw (columns, ends) at c.read_rows.ensures)
