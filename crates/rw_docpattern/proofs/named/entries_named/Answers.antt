-- The entry's name is one of an attribute's, or nothing is read of all entries.
use Rattle.std.proofs.Common.{length, sym, rules}
use Rattle.std.proofs.lemmas.Iterator.Adapters.{YieldsList-from_vec}
use Rattle.std.proofs.lemmas.Iterator.Consumers.{YieldsList-turn}
use Rattle.rw_docpattern.specs.Patterns as spec
use Rattle.rw_doc.proofs.Listed.{none_at, some_more}
use Rattle.rw_docpattern.proofs.named.entries_named.Goals as goal

pub returns-in_default-clause-value : goal.returns-in_default-clause-value
returns-in_default-clause-value c =
    let turn = YieldsList-turn (YieldsList-from_vec c.args.entries.items (cc) (cc)) c.loop-entry.yielded c.loop-entry.entry-iterator c.loop-entry.yielded_by c.next.result c.next.new.self c.in-Some.entry c.in-Some.is c.next.ensures.steps in
    sym (none_at (spec.entry_named c.args.schema.now.attributes) c.args.entries.items (length c.loop-entry.yielded) c.in-Some.entry turn.0 turn.1 (sym c.in_default.ensures.value))

pub loop-entry-preserved : goal.loop-entry-preserved
loop-entry-preserved c = record {
  named = rw c.in_ok-push.ensures.items
      (some_more (spec.entry_named c.args.schema.now.attributes) c.loop-entry.yielded c.in-Some.entry c.loop-entry.named.items c.in-Some-entry_named.entry
      c.loop-entry.invariant.named (sym c.in-Some-entry_named.ensures.value));
  there = search rules;
}
