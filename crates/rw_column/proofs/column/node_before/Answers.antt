use Rattle.rw_column.proofs.Threads.{ahead_end, ahead_place}
use Rattle.rw_column.proofs.column.node_before.Goals as goal

pub returns-then-stop-eq-NOTHING : goal.returns-then-stop-eq-NOTHING
returns-then-stop-eq-NOTHING c =
    let s = c.column.inside in
    rw (← c.column.view_is) (ahead_end s.values.items s.next.items s.previous.items s.first.items s.last.items c.column.invariant c.args.place c.args.value
    (rw (← c.column.view_is) at c.requires.value) c.entry.result c.args.stop (rw (← c.column.view_is) at c.requires.stop)
    (rw (← c.column.view_is) at c.requires.place) c.if-stop-eq-NOTHING.true c.entry.ensures)

pub returns-else-stop-eq-NOTHING : goal.returns-else-stop-eq-NOTHING
returns-else-stop-eq-NOTHING c =
    let s = c.column.inside in
    rw (← c.column.view_is) (ahead_place s.values.items s.next.items s.previous.items s.first.items s.last.items c.column.invariant c.args.place c.args.value
    (rw (← c.column.view_is) at c.requires.value) c.entry-else-stop-eq-NOTHING.result c.args.stop (rw (← c.column.view_is) at c.requires.stop)
    (c.requires.ahead c.if-stop-eq-NOTHING.false) c.if-stop-eq-NOTHING.false c.entry-else-stop-eq-NOTHING.ensures)
