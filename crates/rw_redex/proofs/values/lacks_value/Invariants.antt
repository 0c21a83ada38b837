-- No set so far is on the cell without a value.
use Rattle.std.proofs.Common.{◌≡◌, ◌&&◌, ℕ, List, drop, is_none}
use Rattle.std.specs.List.{list_any}
use Rattle.rw_spec.specs.Instance.{Instance}
use Rattle.rw_terms.specs.declared.code.OpCode.{OpCode}
use Rattle.rw_rule.specs.Sets.{is_on_cell}
use Rattle.rw_rule.specs.declared.set.SetCell.{SetCell}
use Rattle.rw_redex.specs.SetValues.{set_values}
use Rattle.rw_redex.specs.SetValues.{lacks_value, set_value}
use Rattle.rw_redex.proofs.values.lacks_value.Given as goal

abbrev pub invariant-loop-place : goal.invariant-loop-place
invariant-loop-place l =
    (codes : List OpCode) (tuple : List ℕ) (X : Instance) → l.values ≡ set_values codes l.rule tuple X
    → lacks_value codes l.rule tuple X l.attr.0 l.part
    ≡ list_any (λ (set : SetCell). is_on_cell l.attr.0 l.part set && is_none (set_value codes l.rule tuple X set)) (drop l.place l.rule.sets)
