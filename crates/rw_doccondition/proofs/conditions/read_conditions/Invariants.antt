-- What all values give is what those that are left give behind what is read.
use Rattle.std.proofs.Common.{◌≡◌, ◌≤◌, ◌+◌, ◌*◌, drop, length, map}
use Rattle.serde_json.specs.View.{view}
use Rattle.rw_rule.specs.RuleParts.{condition_of_parts}
use Rattle.rw_doccondition.specs.Conditions.{conditions_after, read_conditions}
use Rattle.rw_doccondition.specs.Reads.{known_seen}
use Rattle.rw_doccondition.proofs.conditions.read_conditions.Given as goal

abbrev pub invariant-loop-place : goal.invariant-loop-place
invariant-loop-place l = record {
  gives : read_conditions l.schema l.rule l.left (known_seen l.fn.known) (map view l.values)
      ≡ conditions_after l.schema l.rule l.left (record { conditions = map condition_of_parts l.conditions.items; known = known_seen l.known }) (drop l.place (map view l.values));
  long : length l.conditions.items ≡ l.place;
  few : length l.known.names ≤ 256 + 256 * l.place;
}
