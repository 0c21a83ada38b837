-- The entry wants something, or nothing is read of all entries.
use Rattle.std.proofs.Common.{length, sym}
use Rattle.std.proofs.lemmas.Iterator.Adapters.{YieldsList-from_vec}
use Rattle.std.proofs.lemmas.Iterator.Consumers.{YieldsList-turn}
use Rattle.rw_docpattern.specs.Patterns as spec
use Rattle.rw_doc.proofs.Listed.{none_at, some_more}
use Rattle.rw_docpattern.proofs.wants.cells_of.Goals as goal

pub returns-in_default : goal.returns-in_default
returns-in_default c =
    let turn = YieldsList-turn (YieldsList-from_vec c.args.entries.items (cc) (cc)) c.loop-entry.yielded c.loop-entry.entry-iterator c.loop-entry.yielded_by
    c.next.result c.next.new.self c.in-Some.entry c.in-Some.is c.next.ensures.steps in
    sym (none_at (spec.cell_of c.args.names.now) c.args.entries.items (length c.loop-entry.yielded) c.in-Some.entry turn.0 turn.1 (sym c.in_default.ensures))

pub loop-entry-preserved : goal.loop-entry-preserved
loop-entry-preserved c =
    rw c.in_ok-push.ensures.items
    (some_more (spec.cell_of c.args.names.now) c.loop-entry.yielded c.in-Some.entry c.loop-entry.cells.items c.in-Some-cell_of.cell
    c.loop-entry.invariant (sym c.in-Some-cell_of.ensures))
