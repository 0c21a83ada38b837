-- A rule at a match: what its patterns have in their cells there.
use Rattle.std.specs.Prelude.{ℕ, cond, find, List, Option, None, option_and_then}
use Rattle.rw_schema.specs.declared.atom.Atom.{Atom}
use Rattle.rw_spec.specs.Instance.{Instance}
use Rattle.rw_spec.specs.Redex.{Redex}
use Rattle.rw_pattern.specs.MapFaults.{image_of}
use Rattle.rw_pattern.specs.PatternLists.{PatternLists, holder, instance_of_pattern, map_of_tuple}
use Rattle.rw_terms.specs.declared.code.OpCode.{OpCode}
use Rattle.rw_rule.specs.RuleLists.{RuleLists}
use Rattle.rw_rule.specs.Sets.{is_on_cell, is_set}
use Rattle.rw_redex.specs.SetValues.{set_value}

-- a pattern with these cells
abbrev pub with_cells : PatternLists → (ℕ → ℕ → Option Atom) → Instance
with_cells pattern cell = record {
  names = (instance_of_pattern pattern).names;
  value = (instance_of_pattern pattern).value;
  cell = cell;
}

-- a part of the left pattern has the cells of the part that it is matched to
abbrev pub left_at : RuleLists → List ℕ → Instance → Instance
left_at rule tuple X = with_cells rule.goal.left (λ attr part. X.cell attr (map_of_tuple rule.goal.left tuple (holder rule.goal.left attr) part))

-- a kept part has them too, but where its cell is set on the right side it is blank
abbrev pub keep_at : RuleLists → List ℕ → Instance → Instance
keep_at rule tuple X = with_cells rule.keep (λ attr part.
    let object : ℕ = holder rule.goal.left attr in
    cond (is_set rule.sets attr (image_of rule.r object part)) None (X.cell attr (map_of_tuple rule.goal.left tuple object (image_of rule.l object part))))

-- a right part has the values of the sets on its cells, and demands nothing of the others
abbrev pub right_at : List OpCode → RuleLists → List ℕ → Instance → Instance
right_at codes rule tuple X = with_cells rule.right (λ attr part.
    option_and_then (set_value codes rule tuple X) (find (is_on_cell attr part) rule.sets))

-- the left half of the rule at the match
abbrev pub redex_of : RuleLists → List ℕ → Instance → Redex
redex_of rule tuple X = record {
  keep = keep_at rule tuple X;
  left = left_at rule tuple X;
  host = X;
  l = image_of rule.l;
  m = map_of_tuple rule.goal.left tuple;
}
