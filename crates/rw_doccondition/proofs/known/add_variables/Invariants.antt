-- What all entries leave is what those that are left leave behind those so far.
use Rattle.std.proofs.Common.{◌≡◌, drop}
use Rattle.rw_doccondition.specs.Reads.{known_seen}
use Rattle.rw_doccondition.specs.Variables.{known_after}
use Rattle.rw_doccondition.proofs.known.add_variables.Given as goal

abbrev pub invariant-loop-entry : goal.invariant-loop-entry
invariant-loop-entry l =
    known_after l.schema.attributes (known_seen l.initial.known) l.entries ≡ known_after l.schema.attributes (known_seen l.known) (drop l.entry-index l.entries)
