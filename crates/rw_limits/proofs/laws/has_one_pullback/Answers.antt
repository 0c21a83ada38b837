-- The lists of a pullback are given.
use Rattle.rw_schema.specs.Presentation.{signature_of}
use Rattle.rw_limits.specs.Pullbacks.{cospan_of}
use Rattle.rw_limits.proofs.OneLimit.{one_pullback}
use Rattle.rw_limits.proofs.laws.has_one_pullback.Goals as goal

pub returns : goal.returns
returns c = one_pullback (signature_of c.args.schema.now) (cospan_of c.args.left.now c.args.right.now c.args.base.now c.args.f.now c.args.g.now)
