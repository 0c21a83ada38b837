-- The members of rules, behind the references that code has to them.
use Rattle.std.specs.Prelude.{option_map}
use Rattle.serde_json.specs.View.{view}
use Rattle.rw_docrule.specs.declared.members.RuleMembers as rules
use Rattle.rw_docrule.specs.Heads.{RuleMembers}

abbrev pub members_of_rule : rules.RuleMembers → RuleMembers
members_of_rule members = record {
  name = view members.name.now;
  kind = view members.kind.now;
  left = view members.left.now;
  keep = view members.keep.now;
  right = view members.right.now;
  l = view members.l.now;
  r = view members.r.now;
  monic = option_map (λ value. view value.now) members.monic;
  conditions = option_map (λ value. view value.now) members.conditions;
}
