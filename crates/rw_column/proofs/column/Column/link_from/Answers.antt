use Rattle.rw_column.proofs.Threads.{thread_linked}
use Rattle.rw_column.proofs.column.Column.link_from.Goals as goal

pub invariant_of-self : goal.invariant_of-self
invariant_of-self c =
    let s = c.self.inside in
    thread_linked s.values.items s.next.items s.previous.items s.first.items s.last.items c.self.invariant c.args.place c.args.value
    (rw (← c.self.view_is) at c.requires.place) (rw (← c.self.view_is) at c.requires.value) (rw (← c.self.view_is) at c.requires.free)
    c.gap-node.result.0 c.gap-node.result.1 (rw (← c.self.view_is) at c.gap-node.ensures)
    c.lead.new.next.items c.back.new.previous.items c.lead.new.first.items c.back.new.last.items
    c.lead.ensures.next c.lead.ensures.first c.lead.ensures.led c.back.ensures.previous c.back.ensures.last c.back.ensures.backed
