-- All entries pass where those that are left do.
use Rattle.std.proofs.Common.{◌≡◌, drop}
use Rattle.std.specs.List.{list_all}
use Rattle.rw_pattern.specs.PatternFaults.{has_part}
use Rattle.rw_pattern.proofs.range.have_parts.Given as goal

abbrev pub invariant-loop-entry : goal.invariant-loop-entry
invariant-loop-entry l = list_all (has_part l.pattern) l.pattern.cells ≡ list_all (has_part l.pattern) (drop l.entry-index l.pattern.cells)
