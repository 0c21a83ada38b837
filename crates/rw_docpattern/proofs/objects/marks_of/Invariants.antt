-- The marks of the objects so far.
use Rattle.std.proofs.Common.{◌≡◌}
use Rattle.rw_docpattern.specs.Objects as spec
use Rattle.rw_docpattern.proofs.objects.marks_of.Given as goal

abbrev pub invariant-loop-object : goal.invariant-loop-object
invariant-loop-object l = l.marks.items ≡ spec.marks_of l.object l.listed
