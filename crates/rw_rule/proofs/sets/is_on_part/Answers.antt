-- The attribute's object is the one in the schema.
use Rattle.std.proofs.Common.{refl}
use Rattle.rw_pattern.proofs.Over.{holder_is}
use Rattle.rw_rule.proofs.sets.is_on_part.Goals as goal

pub returns : goal.returns
returns c =
    rw (holder_is c.args.schema.now c.args.right.now c.args.set.now.attr.0 c.attr.result.now c.requires.right.holders c.attr.ensures.entry, ← c.size.ensures) refl
