-- All that is read is what was read so far, with what is read of the items that are left.
use Rattle.rw_doc.specs.Schemas as spec
use Rattle.rw_doc.proofs.Readings.{ReadAt}
use Rattle.rw_doc.proofs.equations.equations_of.Given as goal

abbrev pub invariant-loop-place : goal.invariant-loop-place
invariant-loop-place l = ReadAt (spec.read_equation l.objects l.arrows) l.items l.place l.equations.items
