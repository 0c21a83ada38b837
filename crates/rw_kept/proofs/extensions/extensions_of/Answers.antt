-- What is found of the condition's pattern with the carried entries is all extensions, and they are grouped by what they extend.
use Rattle.std.proofs.Common.{◌≡◌, ◌∙◌, ℕ, Bool, List, filter, map, slice_index, ap, Vec, Global}
use Rattle.std.proofs.lemmas.Result.{IfOk-weaker}
use Rattle.std.specs.Str.{bytes_eq}
use Rattle.rw_schema.specs.Presentation.{signature_of}
use Rattle.rw_pattern.specs.Matches.{matches}
use Rattle.rw_pattern.specs.PatternLists.{PatternLists}
use Rattle.rw_rule.specs.RuleParts.{condition_of_parts, goal_of_parts}
use Rattle.rw_kept.specs.Conditions.{all_extensions, extends_tuple, image_places, joined}
use Rattle.rw_kept.specs.KeptLists.{extensions_of}
use Rattle.rw_kept.specs.inner.Groups.{AreGroups}
use Rattle.rw_kept.proofs.Grouped.{groups_are}
use Rattle.rw_kept.proofs.extensions.extensions_of.Goals as goal

pub returns : goal.returns
returns g c =
    let C = signature_of c.args.schema.now in
    let X = g.P.Probe.instance c.args.probe.now in
    let looked_for = goal_of_parts c.args.goal.now in
    let condition = condition_of_parts c.args.condition.now in
    let found = c.args.matches.now in
    let items = λ (group : Vec (List ℕ) Global). group.items in
    let extends = λ (m q : List ℕ). bytes_eq (map (slice_index q) c.as_slice.result.now) m in
    let places : c.as_slice.result.now ≡ image_places looked_for.left condition = c.as_slice.ensures.value ∙ c.in_ok-places.ensures in
    let tuples : c.as_slice-2.result.now ≡ all_extensions C looked_for.left condition X =
    c.as_slice-2.ensures.value
    ∙ c.in_ok-tuples.ensures.found
    ∙ ap (λ (pattern : PatternLists). matches C pattern c.as_slice-monic.result.now X) c.in_ok-joined.ensures.entries
    ∙ ap (λ (monic : List Bool). matches C (joined looked_for.left condition) monic X) c.as_slice-monic.ensures.value in
    IfOk-weaker c.grouped.result (λ groups. AreGroups extends c.as_slice-2.result.now found (map items groups.items))
    (λ groups. map items groups.items ≡ extensions_of C X looked_for found condition)
    (λ groups are.
    groups_are extends c.as_slice-2.result.now found (map items groups.items) are
    ∙ ap (λ (places : List ℕ). map (λ m. filter (λ q. bytes_eq (map (slice_index q) places) m) c.as_slice-2.result.now) found) places
    ∙ ap (λ (tuples : List (List ℕ)). map (λ m. filter (extends_tuple looked_for.left condition m) tuples) found) tuples)
    c.grouped.ensures
