-- All objects pass where those that are left do.
use Rattle.std.proofs.Common.{◌≡◌, drop}
use Rattle.rw_schema.specs.First.{all_in}
use Rattle.rw_rule.specs.PlainRules.{is_single_or_monic}
use Rattle.rw_rule.proofs.plain.is_monic_where_many.Given as goal

abbrev pub invariant-loop-object : goal.invariant-loop-object
invariant-loop-object l =
    all_in (is_single_or_monic l.pattern) 0 l.monic ≡ all_in (is_single_or_monic l.pattern) l.object (drop l.object l.monic)
