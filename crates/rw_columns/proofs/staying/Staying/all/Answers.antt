-- Where nothing goes and nothing is written, all names are kept.
use Rattle.std.proofs.Common.{◌∙◌, [], refl}
use Rattle.rw_columns.specs.inner.Walks.{is_kept}
use Rattle.rw_columns.proofs.Walked.{filter_all}
use Rattle.rw_columns.proofs.staying.Staying.all.Goals as goal

pub returns : goal.returns
returns c = c.new.ensures ∙ filter_all (is_kept [] []) c.args.walk (λ name there. refl)
