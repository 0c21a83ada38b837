-- What a document says, as contracts see it.
use Rattle.std.specs.Prelude.{◌≡◌, ◌≤◌, ℕ, true, List, [], map, length, Option, option_map, IfSome}
use Rattle.std.specs.List.{All}
use Rattle.rw_schema.specs.Presentation.{Presentation, signature_of}
use Rattle.rw_spec.specs.Tabled.{Tabled, IsOver}
use Rattle.rw_rule.specs.RuleFaults.{IsGoalOver, IsRuleOver}
use Rattle.rw_rule.specs.RuleLists.{RuleLists, WatchLists}
use Rattle.rw_rule.specs.RuleParts.{lists_of_watch}
use Rattle.rw_docrule.specs.Built.{is_built_rule}
use Rattle.rw_docspan.specs.Spans.{SpanLists, CospanLists, IsSpanOver, IsCospanOver}
use Rattle.rw_docspan.specs.Views.{span_lists, cospan_lists}
use Rattle.rw_document.specs.declared.document.Document.{Document}

pub record DocumentLists : Type 0 where
  pub schema : Presentation
  pub table : Tabled
  pub rules : List RuleLists
  pub watches : List WatchLists
  pub span : Option SpanLists
  pub cospan : Option CospanLists

abbrev pub document_lists : Document → DocumentLists
document_lists document = record {
  schema = document.schema;
  table = document.table;
  rules = document.rules.items;
  watches = map lists_of_watch document.watches.items;
  span = option_map span_lists document.span;
  cospan = option_map cospan_lists document.cospan;
}

-- the table is over the schema, and so is each rule and each watch; the rules' terms have operations below this number, and
-- each rule is one whose steps are built so far; there are at most 256 rules and 64 watches; the span and the cospan, where
-- they are there, are over the schema
pub record IsSound (ops : ℕ) (document : DocumentLists) : Type 0 where
  pub table : IsOver document.schema document.table
  pub rules : All (IsRuleOver (signature_of document.schema) ops) document.rules
  pub built : All (λ rule. is_built_rule rule ≡ true) document.rules
  pub watches : All (λ (watch : WatchLists). IsGoalOver (signature_of document.schema) watch.goal) document.watches
  pub free : All (λ (watch : WatchLists). watch.goal.conditions ≡ []) document.watches
  pub few_rules : length document.rules ≤ 256
  pub few_watches : length document.watches ≤ 64
  pub span : IfSome document.span (IsSpanOver (signature_of document.schema))
  pub cospan : IfSome document.cospan (IsCospanOver (signature_of document.schema))
