-- What is read of a document's sections, as contracts see it.
use Rattle.std.specs.Prelude.{◌≡◌, ◌≤◌, ℕ, true, length, map, option_map, IfSome}
use Rattle.std.specs.List.{All}
use Rattle.rw_schema.specs.Signature.{Signature}
use Rattle.rw_rule.specs.RuleFaults.{IsRuleOver}
use Rattle.rw_rule.specs.RuleParts.{lists_of_watch}
use Rattle.rw_docrule.specs.Built.{is_built_rule}
use Rattle.rw_docrule.specs.Reads.{rule_read}
use Rattle.rw_docspan.specs.Spans.{IsCospanOver, IsSpanOver}
use Rattle.rw_docspan.specs.Views.{cospan_lists, span_lists}
use Rattle.rw_docwatch.specs.Known.{IsWatchRead}
use Rattle.rw_document.specs.declared.ends.Ends as ends
use Rattle.rw_document.specs.declared.goals.Goals as goals
use Rattle.rw_document.specs.declared.read.Others as others
use Rattle.rw_document.specs.Documents.{Ends, Goals, Others}

abbrev pub goals_read : goals.Goals → Goals
goals_read goals = record { rules = map rule_read goals.rules.items; watches = map lists_of_watch goals.watches.items }

abbrev pub ends_read : ends.Ends → Ends
ends_read ends = record { span = option_map span_lists ends.span; cospan = option_map cospan_lists ends.cospan }

abbrev pub others_read : others.Others → Others
others_read others = record { rules = others.rules.items; watches = map lists_of_watch others.watches.items; ends = ends_read others.ends }

-- the rules, the watches, the span and the cospan are over the signature, and steps of each rule are built so far
pub record AreOthersOver (C : Signature) (ops : ℕ) (others : Others) : Type 0 where
  pub rules : All (IsRuleOver C ops) others.rules
  pub built : All (λ rule. is_built_rule rule ≡ true) others.rules
  pub watches : All (IsWatchRead C) others.watches
  pub few_rules : length others.rules ≤ 256
  pub few_watches : length others.watches ≤ 64
  pub span : IfSome others.ends.span (IsSpanOver C)
  pub cospan : IfSome others.ends.cospan (IsCospanOver C)
