-- The rules are built, the watches are those that were read, and the span and the cospan are over the schema.
use Rattle.std.proofs.lemmas.List.{length-map}
use Rattle.std.proofs.lemmas.List.Elements.{All-map}
use Rattle.rw_schema.specs.Presentation.{signature_of}
use Rattle.rw_rule.specs.RuleParts.{lists_of_watch}
use Rattle.rw_docwatch.specs.Known.{IsWatchRead}
use Rattle.rw_document.proofs.read.read_others.Goals as goal

pub returns-clause-over : goal.returns-clause-over
returns-clause-over g c = record {
  rules = c.in_ok-rules.ensures.over;
  built = c.in_ok-rules.ensures.built;
  watches = All-map (IsWatchRead (signature_of c.args.schema.now)) lists_of_watch c.in_ok-goals.goals.watches.items c.in_ok-goals.ensures.watches;
  few_rules = rw c.in_ok-rules.ensures.long c.in_ok-goals.ensures.few_rules;
  few_watches = rw (length-map c.in_ok-goals.goals.watches.items lists_of_watch) c.in_ok-goals.ensures.few_watches;
  span = c.in_ok-ends.ensures.span;
  cospan = c.in_ok-ends.ensures.cospan;
}
