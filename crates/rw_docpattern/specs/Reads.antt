-- What readings of patterns give, as contracts see it.
use Rattle.rw_docpattern.specs.declared.patterns.PatternRead as code
use Rattle.rw_docpattern.specs.declared.sets.RightRead as sets
use Rattle.rw_docpattern.specs.Patterns.{PatternRead}
use Rattle.rw_docpattern.specs.Sets.{RightRead}

abbrev pub pattern_read : code.PatternRead → PatternRead
pattern_read read = record { pattern = read.pattern; variables = read.variables; kinds = read.kinds.items }

abbrev pub right_read : sets.RightRead → RightRead
right_read read = record { pattern = read.pattern; sets = read.sets.items }
