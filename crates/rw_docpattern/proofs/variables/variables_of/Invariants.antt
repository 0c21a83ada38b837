-- The names and the kinds of the variables so far.
use Rattle.rw_docpattern.proofs.FirstPlaces.{Met}
use Rattle.rw_docpattern.proofs.variables.variables_of.Given as goal

abbrev pub invariant-loop-entry : goal.invariant-loop-entry
invariant-loop-entry l = Met l.schema.attributes l.entries l.entry-index l.names l.kinds.items
