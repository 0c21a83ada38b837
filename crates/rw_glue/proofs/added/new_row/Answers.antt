-- The values are parts of the right side.
use Rattle.rw_glue.proofs.Steps.{all_values}
use Rattle.rw_glue.proofs.added.new_row.Goals as goal

pub numbers_at-requires-2 : goal.numbers_at-requires-2
numbers_at-requires-2 c =
    rw (c.as_slice-2.ensures.value, c.in_ok-values.ensures) (λ k d within.
    all_values c.args.row.now c.as_slice.result.now c.args.placed.now c.requires.values
    (rw (c.as_slice.ensures.value, c.in_ok-parts.ensures) c.requires.parts) k d within)
