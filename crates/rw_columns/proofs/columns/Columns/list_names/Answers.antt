-- The columns of names are read.
use Rattle.std.proofs.Common.{◌≡◌, ◌∙◌, [], Vec, Global, ℕ, length, map, ap, subst}
use Rattle.std.proofs.lemmas.Result.{IfOk-weaker}
use Rattle.rw_columns.specs.Columned.{Columned, AreColumns}
use Rattle.rw_columns.specs.Kept.{lists_of_columns}
use Rattle.rw_columns.specs.inner.Filled.{AreAll}
use Rattle.rw_columns.specs.inner.Read.{AreNamesIn}
use Rattle.rw_columns.proofs.ListsRead.{names_read}
use Rattle.rw_columns.proofs.columns.Columns.list_names.Goals as goal

pub returns : goal.returns
returns g c =
    let K : Columned = c.args.self.now in
    let sound = subst AreColumns c.self.view_is c.self.invariant in
    let columns = c.as_slice.ensures.value ∙ ap (λ (k : Columned). k.names) c.self.view_is in
    let items = map (λ (list : Vec ℕ Global). list.items) in
    IfOk-weaker c.read_names.result (λ lists. AreAll [] (AreNamesIn K.names) (length K.names) (items lists.items)) (λ lists. items lists.items ≡ (lists_of_columns K).names)
    (λ lists all. names_read K sound (items lists.items) all) (rw columns at c.read_names.ensures)
