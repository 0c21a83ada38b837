-- The values of the sets so far are there.
use Rattle.std.proofs.Common.{◌≡◌, map, take}
use Rattle.rw_terms.specs.OpEntries.{entries}
use Rattle.rw_terms.specs.OpTables.{codes_of}
use Rattle.rw_terms.specs.Terms.{value_of}
use Rattle.rw_rule.specs.declared.set.SetCell.{SetCell}
use Rattle.rw_redex.proofs.values.set_values.Given as goal

abbrev pub invariant-loop-set : goal.invariant-loop-set
invariant-loop-set g l =
    l.values.items ≡ map (λ (set : SetCell). value_of (codes_of (entries l.ops)) l.valuation set.term) (take l.set-index l.set-items)
