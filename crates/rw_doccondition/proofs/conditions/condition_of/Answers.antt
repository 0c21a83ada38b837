-- There are no more new variables than entries.
use Rattle.std.proofs.Common.{◌≡◌, length, ap, arith}
use Rattle.rw_doccondition.specs.Reads.{known_seen}
use Rattle.rw_doccondition.specs.Variables.{Known, known_after}
use Rattle.rw_doccondition.proofs.Counted.{few_more}
use Rattle.rw_doccondition.proofs.conditions.condition_of.Goals as goal

pub pattern_with-requires-clause-few : goal.pattern_with-requires-clause-few
pattern_with-requires-clause-few c =
    let attributes = c.args.schema.now.attributes in
    let entries = c.as_slice.result.now in
    let added : known_seen c.add_variables.new.known ≡ known_after attributes (known_seen c.args.known.now) entries = c.in_ok-add_variables.ensures in
    omega (arith, ap (λ (known : Known). length known.names) added, few_more attributes (known_seen c.args.known.now) entries, ap length c.as_slice.ensures.value, c.requires.sound.few, c.requires.few)

pub returns-clause-few : goal.returns-clause-few
returns-clause-few c =
    let attributes = c.args.schema.now.attributes in
    let entries = c.as_slice.result.now in
    let added : known_seen c.add_variables.new.known ≡ known_after attributes (known_seen c.args.known.now) entries = c.in_ok-add_variables.ensures in
    omega (arith, ap (λ (known : Known). length known.names) added, few_more attributes (known_seen c.args.known.now) entries, ap length c.as_slice.ensures.value, c.requires.sound.few)
