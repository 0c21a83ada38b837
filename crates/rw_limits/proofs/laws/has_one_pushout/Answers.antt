-- The names of a table without a fault stand each once.
use Rattle.std.proofs.Common.{subst}
use Rattle.rw_schema.specs.Presentation.{signature_of}
use Rattle.rw_schema.specs.Signature.{IsCategory}
use Rattle.rw_table.proofs.Checked.{names_apart}
use Rattle.rw_limits.specs.Pushouts.{frame_of}
use Rattle.rw_limits.proofs.OneLimit.{one_pushout}
use Rattle.rw_limits.proofs.laws.has_one_pushout.Goals as goal

pub returns : goal.returns
returns c =
    let C = signature_of c.args.schema.now in
    let left = c.args.left.now in
    let right = c.args.right.now in
    one_pushout C (subst (λ D. IsCategory D) c.requires.left c.rows-left.ensures.category)
    (frame_of c.args.apex.now left right c.args.f.now c.args.g.now)
    (λ object known. names_apart left.signature left.rows object c.rows-left.ensures.sound)
    (λ object known. names_apart right.signature right.rows object c.rows-right.ensures.sound)
