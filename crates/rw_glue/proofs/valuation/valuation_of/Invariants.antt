-- The values so far.
use Rattle.std.proofs.Common.{◌≡◌, map}
use Rattle.std.specs.Prelude.{pos, unwrap_or}
use Rattle.std.specs.List.{range_with_len}
use Rattle.rw_schema.specs.declared.atom.Atom.TheVariants.{Int}
use Rattle.rw_pattern.specs.Matches.{value_of}
use Rattle.rw_glue.proofs.valuation.valuation_of.Given as goal

abbrev pub invariant-loop-variable : goal.invariant-loop-variable
invariant-loop-variable g l = l.values.items ≡ map (λ variable. unwrap_or (value_of l.rule.goal.left (g.P.Probe.instance l.probe) l.tuple variable) (Int (pos 0))) (range_with_len 0 l.variable)
