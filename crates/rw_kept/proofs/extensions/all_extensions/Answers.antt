-- Each condition is one over the schema.
use Rattle.std.proofs.Common.{◌≡◌, ◌<◌, length, get_or}
use Rattle.rw_schema.specs.Presentation.{signature_of}
use Rattle.rw_kept.proofs.MetConditions.{condition_of}
use Rattle.rw_kept.proofs.extensions.all_extensions.Goals as goal

pub extensions_of-requires-clause-condition : goal.extensions_of-requires-clause-condition
extensions_of-requires-clause-condition g c =
    let conditions = c.args.goal.now.conditions.items in
    let index = c.loop-condition.condition-index in
    let within : index < length conditions = rw (← c.as_slice-condition-items.ensures.value) c.loop-condition-test.true in
    let is : c.condition-item.result ≡ get_or conditions index c.condition-item.result = rw (← c.as_slice-condition-items.ensures.value) c.condition-item.is in
    condition_of (signature_of c.args.schema.now) c.args.goal.now index c.condition-item.result within is c.requires.goal
