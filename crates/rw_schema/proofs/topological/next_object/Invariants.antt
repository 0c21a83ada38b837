-- None of the objects passed can be placed next.
use Rattle.std.proofs.Common.{◌≡◌, ℕ, ◌<◌, false}
use Rattle.rw_schema.specs.inner.Topological.{is_next}
use Rattle.rw_schema.proofs.topological.next_object.Given as goal

abbrev pub invariant-loop-object : goal.invariant-loop-object
invariant-loop-object l = (object : ℕ) → object < l.object → is_next l.arrows l.placed object ≡ false
