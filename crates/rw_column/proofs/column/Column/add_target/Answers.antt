use Rattle.rw_column.proofs.Threads.{thread_widened}
use Rattle.rw_column.proofs.column.Column.add_target.Goals as goal

pub invariant_of-self : goal.invariant_of-self
invariant_of-self c =
    let s = c.self.inside in
    rw (c.push_within.ensures.items, c.push_within-2.ensures.items)
    (thread_widened s.values.items s.next.items s.previous.items s.first.items s.last.items c.self.invariant (rw (← c.self.view_is) at c.requires.few))
