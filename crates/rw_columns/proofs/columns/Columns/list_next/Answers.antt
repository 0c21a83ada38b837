-- The lengths of the columns of names are read.
use Rattle.std.proofs.Common.{◌≡◌, ◌∙◌, length, ap, subst}
use Rattle.std.proofs.lemmas.Result.{IfOk-weaker}
use Rattle.rw_columns.specs.Columned.{Columned, AreColumns}
use Rattle.rw_columns.specs.Kept.{lists_of_columns}
use Rattle.rw_columns.specs.inner.Filled.{AreAll}
use Rattle.rw_columns.specs.inner.Read.{IsNextIn}
use Rattle.rw_columns.proofs.ListsRead.{next_read}
use Rattle.rw_columns.proofs.columns.Columns.list_next.Goals as goal

pub returns : goal.returns
returns c =
    let K : Columned = c.args.self.now in
    let sound = subst AreColumns c.self.view_is c.self.invariant in
    let columns = c.as_slice.ensures.value ∙ ap (λ (k : Columned). k.names) c.self.view_is in
    IfOk-weaker c.read_next.result (λ next. AreAll 0 (IsNextIn K.names) (length K.names) next.items) (λ next. next.items ≡ (lists_of_columns K).next)
    (λ next all. next_read K sound next.items all) (rw columns at c.read_next.ensures)
