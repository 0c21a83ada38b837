-- The members of conditions, behind the references that code has to them.
use Rattle.std.specs.Prelude.{option_map}
use Rattle.serde_json.specs.View.{view}
use Rattle.rw_doccondition.specs.declared.members.ConditionMembers as conditions
use Rattle.rw_doccondition.specs.Forms.{ConditionMembers}

abbrev pub members_of_condition : conditions.ConditionMembers → ConditionMembers
members_of_condition members = record {
  positive = view members.positive.now;
  pattern = view members.pattern.now;
  map = view members.images.now;
  monic = option_map (λ value. view value.now) members.monic;
}
