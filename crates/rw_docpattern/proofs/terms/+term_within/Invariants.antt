-- Terms in a term have a level less.
use Rattle.rw_docpattern.proofs.terms.+term_within.Given as goal

abbrev pub decreases-term_within : goal.decreases-term_within
decreases-term_within l = l.levels
