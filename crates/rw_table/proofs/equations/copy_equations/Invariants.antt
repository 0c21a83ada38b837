-- What was copied are the equations so far.
use Rattle.std.proofs.Common.{◌≡◌, take}
use Rattle.rw_table.proofs.equations.copy_equations.Given as goal

abbrev pub invariant-loop-equation : goal.invariant-loop-equation
invariant-loop-equation l = l.copies.items ≡ take l.equation-index l.equations
