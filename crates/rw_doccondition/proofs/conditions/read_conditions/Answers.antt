-- The next condition stands behind those before it, or its fault ends the reading.
use Rattle.std.proofs.Common.{rules, ◌≡◌, ◌∙◌, ◌+◌, ◌++◌, ◌∷◌, [], List, drop, map, sym, ap, arith, length-append}
use Rattle.std.proofs.lemmas.List.{length-map, map_push}
use Rattle.serde_json.specs.View.{view}
use Rattle.rw_rule.specs.RuleLists.{ConditionLists}
use Rattle.rw_rule.specs.RuleParts.{condition_of_parts}
use Rattle.rw_doc.specs.Chain.{and_then}
use Rattle.rw_doccondition.specs.Conditions.{ConditionRead, ConditionsRead, conditions_after}
use Rattle.rw_doccondition.specs.Reads.{known_seen}
use Rattle.rw_doccondition.proofs.Turns.{mapped_is, next_of, turn}
use Rattle.rw_doccondition.proofs.conditions.read_conditions.Goals as goal

pub returns-in_err-condition : goal.returns-in_err-condition
returns-in_err-condition c =
    let values = c.args.values.now in
    let place = c.loop-place.place in
    let before : ConditionsRead = record { conditions = map condition_of_parts c.loop-place.conditions.items; known = known_seen c.loop-place.known } in
    let value = c.index-values-place.result in
    let next = turn c.args.schema.now c.args.rule c.args.left.now before (map view values) place (view value) c.condition_piece-piece.result
    (rw (length-map values view) c.loop-place-test.true) (mapped_is view values place value c.loop-place-test.true c.index-values-place.is)
    (length-map c.loop-place.conditions.items condition_of_parts ∙ c.loop-place.invariant.long) c.condition_piece-piece.ensures in
    record { gives = rw (c.loop-place.invariant.gives ∙ next) (search rules) }

pub loop-place-preserved : goal.loop-place-preserved
loop-place-preserved c =
    let values = c.args.values.now in
    let place = c.loop-place.place in
    let conditions = c.loop-place.conditions.items in
    let before : ConditionsRead = record { conditions = map condition_of_parts conditions; known = known_seen c.loop-place.known } in
    let value = c.index-values-place.result in
    let next = turn c.args.schema.now c.args.rule c.args.left.now before (map view values) place (view value) c.condition_piece-piece.result
    (rw (length-map values view) c.loop-place-test.true) (mapped_is view values place value c.loop-place-test.true c.index-values-place.is)
    (length-map conditions condition_of_parts ∙ c.loop-place.invariant.long) c.condition_piece-piece.ensures in
    let rest = λ (read : ConditionRead). conditions_after c.args.schema.now c.args.rule c.args.left.now (next_of before read) (drop (place + 1) (map view values)) in
    let known = known_seen c.read_condition.new.known in
    let pushed : map condition_of_parts c.push.new.self.items ≡ map condition_of_parts conditions ++ condition_of_parts c.in_ok-condition.condition ∷ [] =
    ap (map condition_of_parts) c.in_ok-push.ensures.items ∙ map_push condition_of_parts conditions c.in_ok-condition.condition in
    record {
      gives = c.loop-place.invariant.gives ∙ next ∙ ap (λ read. and_then read rest) c.in_ok-condition.ensures.gives
          ∙ ap (λ (listed : List ConditionLists). conditions_after c.args.schema.now c.args.rule c.args.left.now (record { conditions = listed; known = known }) (drop (place + 1) (map view values))) (sym pushed);
      long = rw (c.in_ok-push.ensures.items, length-append conditions (c.in_ok-condition.condition ∷ []), c.loop-place.invariant.long) (omega arith);
      few = omega (arith, c.in_ok-condition.ensures.few, c.loop-place.invariant.few);
    }
