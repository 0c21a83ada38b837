-- The list in the columns is that in the document's table.
use Rattle.std.proofs.Common.{◌≡◌, ◌∙◌, ℕ, List, ap, subst, sym}
use Rattle.rw_schema.specs.Presentation.{signature_of}
use Rattle.rw_schema.specs.RowLists.{RowLists}
use Rattle.rw_schema.specs.Signature.{Signature}
use Rattle.rw_spec.specs.Instance.{Instance, instance_of}
use Rattle.rw_columns.specs.Columned.{Columned}
use Rattle.rw_rule.specs.RuleParts.{goal_of_parts}
use Rattle.rw_lists.specs.Fresh.{fresh_list}
use Rattle.rw_print.specs.Lines.{line, matches_data}
use Rattle.rw_app.specs.AnswerText.{done_with}
use Rattle.rw_app.proofs.ColumnLists.{listed_over}
use Rattle.rw_app.proofs.answer.list_goal.Goals as goal

pub fresh_list-requires-clause-probe : goal.fresh_list-requires-clause-probe
fresh_list-requires-clause-probe g c =
    subst (λ (columns : Columned). columns.signature ≡ signature_of c.args.document.now.schema) (sym c.of-host.ensures) c.in_ok-columns.ensures.over

pub returns : goal.returns
returns g c =
    let C : Signature = signature_of c.args.document.now.schema in
    let list : Instance → List (List ℕ) = λ X. fresh_list C X (goal_of_parts c.args.named.goal.now) in
    let same = c.in_ok-tuples.ensures ∙ ap list (listed_over c.in_ok-columns.columns c.of-host.result.columns.now C c.of-host.ensures c.in_ok-columns.ensures.over)
    ∙ ap (λ (rows : RowLists). list (instance_of C rows)) c.in_ok-columns.ensures.rows in
    ap done_with (c.in_ok-text.ensures ∙ ap (λ (tuples : List (List ℕ)). line (matches_data c.args.named.name.now tuples)) same)
