-- What the premise says of the parts of a term.
use Rattle.rw_terms.specs.OpEntries.{entries}
use Rattle.rw_terms.specs.OpTables.{codes_of}
use Rattle.rw_terms.proofs.Evaluable.{variable_within}
use Rattle.rw_terms.proofs.term.+evaluate.Goals as goal

pub value_at-requires : goal.value_at-requires
value_at-requires g t c =
    variable_within (codes_of (entries c.args.ops.now)) c.args.valuation.now c.in-Var.variable (rw c.in-Var.is at c.requires.evaluable)
