-- The atoms so far.
use Rattle.std.proofs.Common.{◌≡◌, Some, filter, is_some, map, take}
use Rattle.rw_glue.proofs.set_values.present.Given as goal

abbrev pub invariant-loop-cell : goal.invariant-loop-cell
invariant-loop-cell l = map (λ atom. Some atom) l.atoms.items ≡ filter is_some (take l.cell-index l.cells)
