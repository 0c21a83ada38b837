-- The names of the parts are looked through.
use Rattle.std.proofs.Common.{◌≡◌, ◌==◌, List, ℕ, ◌∙◌, ap}
use Rattle.std.specs.List.{list_any}
use Rattle.rw_pattern.specs.Matches.{names_of_parts}
use Rattle.rw_pattern.specs.PatternLists.{PatternLists}
use Rattle.rw_rule.specs.RuleLists.{GoalLists}
use Rattle.rw_redex.proofs.PartNames.{named_part}
use Rattle.rw_redex.proofs.matched.is_matched.Goals as goal

pub returns : goal.returns
returns c =
    let left : PatternLists = c.args.rule.now.goal.left in
    let tuple : List ℕ = c.args.tuple.now in
    let object : ℕ = c.args.object.0 in
    let names : c.names_of.result.now ≡ names_of_parts left tuple object =
    c.names_of.ensures
    ∙ ap (λ (goal : GoalLists). names_of_parts goal.left c.names.result.now object) c.goal.ensures
    ∙ ap (λ (tuple : List ℕ). names_of_parts left tuple object) c.names.ensures in
    c.has_number.ensures ∙ ap (list_any (λ other. other == c.args.name)) names
    ∙ named_part left tuple object c.args.name c.requires.object.left c.requires.tuple
