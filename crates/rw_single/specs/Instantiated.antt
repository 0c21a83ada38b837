-- A rule at a match, as a single pushout reads it.
use Rattle.std.specs.Prelude.{ℕ, List}
use Rattle.rw_spec.specs.Instance.{Instance}
use Rattle.rw_pattern.specs.MapFaults.{image_of}
use Rattle.rw_pattern.specs.PatternLists.{map_of_tuple}
use Rattle.rw_terms.specs.declared.code.OpCode.{OpCode}
use Rattle.rw_rule.specs.RuleLists.{RuleLists}
use Rattle.rw_rule.specs.Sets.{is_set}
use Rattle.rw_redex.specs.Instantiated.{keep_at, left_at, right_at}
use Rattle.rw_partial.specs.SinglePushout.{Applied}

-- the rule at the match: its span, the cells of its right side that are set, and their values
abbrev pub applied_of : List OpCode → RuleLists → List ℕ → Instance → Applied
applied_of codes rule tuple X = record {
  left = left_at rule tuple X;
  keep = keep_at rule tuple X;
  right = right_at codes rule tuple X;
  host = X;
  l = image_of rule.l;
  r = image_of rule.r;
  m = map_of_tuple rule.goal.left tuple;
  set = is_set rule.sets;
}
