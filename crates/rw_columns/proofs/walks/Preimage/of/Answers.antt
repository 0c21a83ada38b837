-- A walk merged with none, with none behind it.
use Rattle.std.proofs.Common.{◌∙◌, []}
use Rattle.std.proofs.lemmas.List.{append-nil}
use Rattle.rw_columns.specs.inner.Walks.{merge}
use Rattle.rw_columns.proofs.Walked.{merge_alone}
use Rattle.rw_columns.proofs.walks.Preimage.of.Goals as goal

pub returns : goal.returns
returns c =
    let merged = rw (c.new.ensures, c.new-2.ensures) at c.new-3.ensures in
    merged ∙ append-nil (merge c.all.result []) ∙ merge_alone c.all.result ∙ c.all.ensures
