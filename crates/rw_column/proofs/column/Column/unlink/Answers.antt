use Rattle.rw_column.proofs.Threads.{node_within, stop_within, thread_unlinked}
use Rattle.rw_column.proofs.column.Column.unlink.Goals as goal

pub lead-requires-clause-node : goal.lead-requires-clause-node
lead-requires-clause-node c =
    let s = c.self.inside in
    rw c.entry-node.ensures
    (node_within s.values.items s.next.items s.previous.items s.first.items s.last.items c.self.invariant c.args.place
    (rw (← c.self.view_is) at c.requires.place) (rw (← c.self.view_is) at c.requires.some))

pub back-requires-clause-stop : goal.back-requires-clause-stop
back-requires-clause-stop c =
    let s = c.self.inside in
    rw c.entry-stop.ensures
    (stop_within s.values.items s.next.items s.previous.items s.first.items s.last.items c.self.invariant c.args.place
    (rw (← c.self.view_is) at c.requires.place) (rw (← c.self.view_is) at c.requires.some))

pub invariant_of-self : goal.invariant_of-self
invariant_of-self c =
    let s = c.self.inside in
    thread_unlinked s.values.items s.next.items s.previous.items s.first.items s.last.items c.self.invariant c.args.place
    (rw (← c.self.view_is) at c.requires.place) (rw (← c.self.view_is) at c.requires.some)
    c.lead.new.next.items c.back.new.previous.items c.lead.new.first.items c.back.new.last.items
    c.entry-value.result c.entry-node.result c.entry-stop.result
    c.entry-value.ensures c.entry-node.ensures c.entry-stop.ensures
    c.lead.ensures.next c.lead.ensures.first c.lead.ensures.led c.back.ensures.previous c.back.ensures.last c.back.ensures.backed
