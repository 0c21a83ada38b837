-- The names so far.
use Rattle.std.proofs.Common.{◌≡◌, map, take}
use Rattle.rw_glue.specs.inner.Names.{name_of_first}
use Rattle.rw_glue.proofs.names.class_names.Given as goal

abbrev pub invariant-loop-first : goal.invariant-loop-first
invariant-loop-first l = l.names.items ≡ map (name_of_first l.rule l.next l.touched l.object.0) (take l.first-index l.firsts)
