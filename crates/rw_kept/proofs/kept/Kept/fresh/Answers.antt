-- What is kept is by definition what the calls give.
use Rattle.std.proofs.Common.{◌≡◌, ◌∙◌, ◌<◌, ℕ, Bool, List, length, map, refl, sym, ap, Vec, Global}
use Rattle.std.proofs.lemmas.List.{length-map}
use Rattle.rw_schema.specs.Presentation.{signature_of}
use Rattle.rw_pattern.specs.Matches.{matches}
use Rattle.rw_rule.specs.declared.condition.Condition.{Condition}
use Rattle.rw_rule.specs.RuleParts.{goal_of_parts}
use Rattle.rw_kept.specs.Conditions.{fresh_list}
use Rattle.rw_kept.specs.KeptLists.{KeptLists, extensions_of}
use Rattle.rw_kept.specs.inner.Groups.{met_matches}
use Rattle.rw_kept.proofs.MetConditions.{each_long, extensions_long, met_are}
use Rattle.rw_kept.proofs.kept.Kept.fresh.Goals as goal

-- what these lists are kept as
abbrev kept_of : List (List ℕ) → List (List ℕ) → List (List (List (List ℕ))) → KeptLists
kept_of list all extensions = record { list = list; matches = all; extensions = extensions }

pub admitted-requires-clause-places : goal.admitted-requires-clause-places
admitted-requires-clause-places g c =
    let C = signature_of c.args.schema.now in
    let X = g.P.Probe.instance c.args.probe.now in
    let looked_for = goal_of_parts c.args.goal.now in
    let items = λ (group : Vec (List ℕ) Global). group.items in
    let lists = λ (groups : Vec (Vec (List ℕ) Global) Global). map items groups.items in
    let of_conditions = map (extensions_of C X looked_for c.as_slice.result.now) looked_for.conditions in
    let same : c.as_slice.result.now ≡ c.as_slice-4.result.now = c.as_slice.ensures.value ∙ sym c.as_slice-4.ensures.value in
    each_long lists (λ groups. length groups.items) (length c.as_slice-4.result.now) c.as_slice-3.result.now of_conditions
    (λ groups. sym (length-map groups.items items))
    (ap (map lists) c.as_slice-3.ensures.value ∙ c.in_ok-extensions.ensures)
    (λ k within.
    let below : k < length looked_for.conditions = rw (length-map looked_for.conditions (extensions_of C X looked_for c.as_slice.result.now)) at within in
    extensions_long C X looked_for c.as_slice.result.now looked_for.conditions k below ∙ ap length same)

pub returns : goal.returns
returns g c =
    let C = signature_of c.args.schema.now in
    let X = g.P.Probe.instance c.args.probe.now in
    let looked_for = goal_of_parts c.args.goal.now in
    let conditions : List Condition = c.args.goal.now.conditions.items in
    let items = λ (group : Vec (List ℕ) Global). group.items in
    let lists = λ (groups : Vec (Vec (List ℕ) Global) Global). map items groups.items in
    let all : List (List ℕ) = matches C looked_for.left looked_for.monic X in
    let extended : List (List (List (List ℕ))) = map (extensions_of C X looked_for all) looked_for.conditions in
    let all_is : c.in_ok-matches.matches.items ≡ all =
    c.in_ok-matches.ensures.found ∙ ap (λ (monic : List Bool). matches C looked_for.left monic X) c.as_slice-monic.ensures.value in
    let extended_is : map lists c.in_ok-extensions.extensions.items ≡ extended =
    c.in_ok-extensions.ensures ∙ ap (λ (found : List (List ℕ)). map (extensions_of C X looked_for found) looked_for.conditions) (c.as_slice.ensures.value ∙ all_is) in
    let list_is : c.in_ok-list.list.items ≡ fresh_list C X looked_for =
    c.in_ok-list.ensures
    ∙ ap (λ (listed : List Condition). met_matches listed (map lists c.as_slice-3.result.now) c.as_slice-4.result.now) c.as_slice-2.ensures.value
    ∙ ap (λ (groups : List (List (List (List ℕ)))). met_matches conditions groups c.as_slice-4.result.now) (ap (map lists) c.as_slice-3.ensures.value ∙ extended_is)
    ∙ ap (λ (found : List (List ℕ)). met_matches conditions extended found) (c.as_slice-4.ensures.value ∙ all_is)
    ∙ met_are C X looked_for conditions all extended refl refl in
    ap (λ (list : List (List ℕ)). kept_of list c.in_ok-matches.matches.items (map lists c.in_ok-extensions.extensions.items)) list_is
    ∙ ap (λ (found : List (List ℕ)). kept_of (fresh_list C X looked_for) found (map lists c.in_ok-extensions.extensions.items)) all_is
    ∙ ap (λ (groups : List (List (List (List ℕ)))). kept_of (fresh_list C X looked_for) all groups) extended_is
