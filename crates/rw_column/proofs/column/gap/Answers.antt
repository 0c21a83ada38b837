use Rattle.rw_column.proofs.Threads.{ahead_within, ahead_next, ahead_less}
use Rattle.rw_column.proofs.column.gap.Goals as goal

pub entry-node-requires : goal.entry-node-requires
entry-node-requires c =
    let s = c.column.inside in
    ahead_within s.values.items s.next.items s.previous.items s.first.items s.last.items c.column.invariant c.args.place c.args.value
    (rw (← c.column.view_is) at c.requires.place) (rw (← c.column.view_is) at c.requires.value) (rw (← c.column.view_is) at c.requires.free)
    c.loop-node.node c.loop-node.stop (rw (← c.column.view_is) at c.loop-node.invariant) c.loop-node-test.true

pub loop-node-smaller : goal.loop-node-smaller
loop-node-smaller c =
    let s = c.column.inside in
    ahead_less s.values.items s.next.items s.previous.items s.first.items s.last.items c.column.invariant c.args.place c.args.value
    (rw (← c.column.view_is) at c.requires.place) (rw (← c.column.view_is) at c.requires.value) (rw (← c.column.view_is) at c.requires.free)
    c.loop-node.node c.loop-node.stop c.entry-node.result (rw (← c.column.view_is) at c.loop-node.invariant) c.loop-node-test.true
    c.entry-node.ensures

pub loop-node-preserved : goal.loop-node-preserved
loop-node-preserved c =
    let s = c.column.inside in
    rw (← c.column.view_is) (ahead_next s.values.items s.next.items s.previous.items s.first.items s.last.items c.column.invariant c.args.place c.args.value
    (rw (← c.column.view_is) at c.requires.place) (rw (← c.column.view_is) at c.requires.value) (rw (← c.column.view_is) at c.requires.free)
    c.loop-node.node c.loop-node.stop c.entry-node.result (rw (← c.column.view_is) at c.loop-node.invariant) c.loop-node-test.true
    c.entry-node.ensures)
