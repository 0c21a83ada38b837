-- The first set of all on a cell again is the first of those that are left.
use Rattle.std.proofs.Common.{◌≡◌, not, drop, take}
use Rattle.rw_schema.specs.First.{first_in, fault_unless}
use Rattle.rw_rule.specs.declared.fault.RuleFault.TheVariants.{SetTwice}
use Rattle.rw_rule.specs.declared.set.SetCell.{SetCell}
use Rattle.rw_rule.specs.Sets.{is_set, set_again}
use Rattle.rw_docpattern.proofs.fits.are_apart.Given as goal

abbrev pub invariant-loop-place : goal.invariant-loop-place
invariant-loop-place l =
    set_again l.sets
    ≡ first_in (λ place (set : SetCell). fault_unless (not (is_set (take place l.sets) set.attr.0 set.part)) (SetTwice place)) l.place (drop l.place l.sets)
