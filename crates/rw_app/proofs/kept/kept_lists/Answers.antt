-- The lists in the columns are those in their lists.
use Rattle.std.proofs.Common.{◌≡◌, ◌∙◌, ◌++◌, ℕ, List, ap, map, refl, subst, sym}
use Rattle.std.specs.List.{All}
use Rattle.rw_schema.specs.Presentation.{signature_of}
use Rattle.rw_schema.specs.Signature.{Signature}
use Rattle.rw_spec.specs.Instance.{Instance}
use Rattle.rw_columns.specs.Columned.{Columned}
use Rattle.rw_columns.specs.Kept.{lists_of_columns}
use Rattle.rw_rule.specs.declared.watch.Watch.{Watch}
use Rattle.rw_rule.specs.RuleLists.{RuleLists, WatchLists}
use Rattle.rw_rule.specs.RuleParts.{goal_of_parts}
use Rattle.rw_lists.specs.Fresh.{IsListable, fresh_list}
use Rattle.rw_app.proofs.ColumnLists.{listed_instance, listed_over}
use Rattle.rw_app.proofs.KeptLists.{each_watch, lists_kept}
use Rattle.rw_app.proofs.kept.kept_lists.Goals as goal

pub push_rules-requires-clause-probe : goal.push_rules-requires-clause-probe
push_rules-requires-clause-probe g c = subst (λ (columns : Columned). columns.signature ≡ signature_of c.args.document.now.schema) (sym c.of-host.ensures) c.requires.columns

pub push_watches-requires-clause-probe : goal.push_watches-requires-clause-probe
push_watches-requires-clause-probe g c = subst (λ (columns : Columned). columns.signature ≡ signature_of c.args.document.now.schema) (sym c.of-host.ensures) c.requires.columns

pub push_watches-requires-clause-watches : goal.push_watches-requires-clause-watches
push_watches-requires-clause-watches g c =
    let document = c.args.document.now in
    let C = signature_of document.schema in
    subst (λ (watches : List Watch). All (λ watch. IsListable C (goal_of_parts watch.goal)) watches) (sym c.as_slice-2.ensures.value)
    (each_watch (λ (watch : WatchLists). IsListable C watch.goal) document.watches.items c.requires.goals.watches)

pub returns : goal.returns
returns g c =
    let document = c.args.document.now in
    let C : Signature = signature_of document.schema in
    let all : Instance → List (List (List ℕ)) = λ X.
    map (λ (rule : RuleLists). fresh_list C X rule.goal) document.rules.items ++ map (λ (watch : Watch). fresh_list C X (goal_of_parts watch.goal)) document.watches.items in
    let found : map (λ list. list.items) c.push_watches.new.lists.items ≡ all (listed_instance c.of-host.result.columns.now) =
    rw (c.in_ok-push_watches.ensures, c.in_ok-push_rules.ensures, c.new-lists.ensures.items, c.as_slice.ensures.value, c.as_slice-2.ensures.value) refl in
    found ∙ ap all (listed_over c.args.columns.now c.of-host.result.columns.now C c.of-host.ensures c.requires.columns) ∙ lists_kept document (lists_of_columns c.args.columns.now)
