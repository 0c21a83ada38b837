-- One cell more.
use Rattle.std.proofs.Common.{◌∙◌}
use Rattle.rw_glue.specs.inner.Sides.{set_atom}
use Rattle.rw_redex.proofs.Ranges.{map_more}
use Rattle.rw_glue.proofs.cells.set_cells.Goals as goal

pub loop-part-preserved : goal.loop-part-preserved
loop-part-preserved c =
    c.in_ok-push.ensures.items
    ∙ map_more (set_atom c.args.values.now c.args.rule.now.sets c.args.attr.0) c.loop-part.part c.loop-part.cells.items c.in_ok-copy_of.field-0 c.loop-part.invariant
    (c.in_ok-copy_of.ensures ∙ c.atom_on.ensures)
