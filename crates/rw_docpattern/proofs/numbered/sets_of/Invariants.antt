-- The sets so far.
use Rattle.std.proofs.Common.{◌≡◌}
use Rattle.rw_terms.specs.OpEntries.{entries as operations}
use Rattle.rw_docpattern.specs.Sets as spec
use Rattle.rw_docpattern.proofs.numbered.sets_of.Given as goal

abbrev pub invariant-loop-entry : goal.invariant-loop-entry
invariant-loop-entry g l = l.sets.items ≡ spec.sets_of (operations l.ops) l.names l.yielded
