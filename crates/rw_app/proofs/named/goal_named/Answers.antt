use Rattle.std.proofs.Common.{◌≡◌, Some, None, find, refl, sym}
use Rattle.std.specs.Str.{bytes_eq}
use Rattle.rw_schema.specs.Presentation.{signature_of}
use Rattle.rw_rule.specs.declared.watch.Watch.{Watch}
use Rattle.rw_lists.specs.Fresh.{IsListable}
use Rattle.rw_rule.specs.RuleLists.{RuleLists, WatchLists}
use Rattle.rw_rule.specs.RuleParts.{goal_of_parts}
use Rattle.rw_app.proofs.Found.{found_holds, goal_found}
use Rattle.rw_app.proofs.KeptLists.{each_watch}
use Rattle.rw_app.proofs.named.goal_named.Goals as goal

pub returns-in-Some-clause-found : goal.returns-in-Some-clause-found
returns-in-Some-clause-found c =
    let document = c.args.document.now in
    let name = c.args.name.now in
    let found : Some c.in-Some.rule.now ≡ find (λ (rule : RuleLists). bytes_eq name rule.name) document.rules.items = rw c.as_slice.ensures.value at c.in-Some.ensures in
    rw (goal_found document name, ← found, c.name.ensures, c.goal.ensures) refl

pub returns-in-Some-clause-over : goal.returns-in-Some-clause-over
returns-in-Some-clause-over c =
    let document = c.args.document.now in
    let name = c.args.name.now in
    let rule = c.in-Some.rule.now in
    let found : Some rule ≡ find (λ (other : RuleLists). bytes_eq name other.name) document.rules.items = rw c.as_slice.ensures.value at c.in-Some.ensures in
    let over : IsListable (signature_of document.schema) rule.goal =
    found_holds (λ (other : RuleLists). IsListable (signature_of document.schema) other.goal) (λ (other : RuleLists). bytes_eq name other.name) document.rules.items rule (sym found) c.requires.rules in
    rw c.goal.ensures over

pub returns-in_err-watch-clause-found : goal.returns-in_err-watch-clause-found
returns-in_err-watch-clause-found c =
    let document = c.args.document.now in
    let name = c.args.name.now in
    let no_rule : None ≡ find (λ (rule : RuleLists). bytes_eq name rule.name) document.rules.items = rw c.as_slice.ensures.value at c.in_default.ensures in
    let no_watch : None ≡ find (λ (watch : Watch). bytes_eq name watch.name) document.watches.items = rw c.as_slice-2.ensures.value at c.in_err-watch.ensures in
    rw (c.from_residual.ensures, goal_found document name, ← no_rule, ← no_watch) refl

pub returns-clause-found : goal.returns-clause-found
returns-clause-found c =
    let document = c.args.document.now in
    let name = c.args.name.now in
    let no_rule : None ≡ find (λ (rule : RuleLists). bytes_eq name rule.name) document.rules.items = rw c.as_slice.ensures.value at c.in_default.ensures in
    let found : Some c.in_ok-watch.watch.now ≡ find (λ (watch : Watch). bytes_eq name watch.name) document.watches.items = rw c.as_slice-2.ensures.value at c.in_ok-watch.ensures in
    rw (goal_found document name, ← no_rule, ← found) refl

pub returns-clause-over : goal.returns-clause-over
returns-clause-over c =
    let document = c.args.document.now in
    let name = c.args.name.now in
    let C = signature_of document.schema in
    let watch = c.in_ok-watch.watch.now in
    let found : Some watch ≡ find (λ (other : Watch). bytes_eq name other.name) document.watches.items = rw c.as_slice-2.ensures.value at c.in_ok-watch.ensures in
    found_holds (λ (other : Watch). IsListable C (goal_of_parts other.goal)) (λ (other : Watch). bytes_eq name other.name) document.watches.items watch (sym found)
    (each_watch (λ (other : WatchLists). IsListable C other.goal) document.watches.items c.requires.watches)
