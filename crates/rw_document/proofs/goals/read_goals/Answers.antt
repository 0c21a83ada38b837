-- The rules are read, and then the watches, whose names are none of theirs.
use Rattle.std.proofs.Common.{List, map, codes, refl, Vec, Global}
use Rattle.std.proofs.lemmas.Result.{err_from_is_err_and}
use Rattle.serde_json.specs.Data.{Data}
use Rattle.serde_json.specs.Find.{get}
use Rattle.serde_json.specs.View.{view}
use Rattle.rw_terms.specs.OpEntries.{entries}
use Rattle.rw_rule.specs.declared.watch.Watch as declared
use Rattle.rw_rule.specs.RuleParts.{lists_of_watch}
use Rattle.rw_docrule.specs.declared.pieces.RuleRead as rules
use Rattle.rw_docrule.specs.Reads.{rule_read}
use Rattle.rw_docrule.specs.Rules.{RuleRead, names_of_rules, read_rules}
use Rattle.rw_docrule.proofs.FirstReadings.{ends_first}
use Rattle.rw_docwatch.specs.Watches.{read_watches}
use Rattle.rw_document.specs.Views.{goals_read}
use Rattle.rw_document.proofs.goals.read_goals.Goals as goal

pub returns-in_err-rules-clause-gives : goal.returns-in_err-rules-clause-gives
returns-in_err-rules-clause-gives g c =
    let p = err_from_is_err_and c.from_residual.result c.from_residual.ensures.1 in
    let value : Data = view c.args.value.now in
    rw (p.1, p.2) (ends_first (λ (rules : Vec rules.RuleRead Global). map rule_read rules.items) goals_read c.in_err-rules.field-0.0
    (read_rules c.args.schema.now (entries c.args.ops.now) (get (codes "rules") value)) _ (rw c.get.ensures at c.in_err-rules.ensures.gives))

pub returns-in_err-watches-clause-gives : goal.returns-in_err-watches-clause-gives
returns-in_err-watches-clause-gives g c =
    let p = err_from_is_err_and c.from_residual-in_err-watches.result c.from_residual-in_err-watches.ensures.1 in
    let value : Data = view c.args.value.now in
    let rules : List RuleRead = map rule_read c.in_ok-rules.rules.items in
    rw (p.1, p.2, rw c.get.ensures at c.in_ok-rules.ensures.gives) (ends_first (λ (watches : Vec declared.Watch Global). map lists_of_watch watches.items) goals_read c.in_err-watches.field-0.0
    (read_watches c.args.schema.now (names_of_rules rules) (get (codes "watches") value)) _ (rw (c.get-2.ensures, c.in_ok-rules.ensures.names) at c.in_err-watches.ensures.gives))

pub returns-clause-gives : goal.returns-clause-gives
returns-clause-gives g c =
    rw (
      rw c.get.ensures at c.in_ok-rules.ensures.gives,
      rw (c.get-2.ensures, c.in_ok-rules.ensures.names) at c.in_ok-watches.ensures.gives,
    ) refl
