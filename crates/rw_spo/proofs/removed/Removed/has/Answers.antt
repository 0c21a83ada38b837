-- The comparison is that of all fields.
use Rattle.std.proofs.Common.{◌∙◌, ap}
use Rattle.rw_spo.specs.inner.Removed.{goes}
use Rattle.rw_spo.proofs.removed.Removed.has.Goals as goal

pub returns : goal.returns
returns c = c.contains.ensures ∙ ap (λ elements. goes elements c.args.element) c.self.view_is
