use Rattle.std.proofs.Common.{◌<◌, take, arith, length-append}
use Rattle.std.proofs.lemmas.Result.{err_from_is_err_and}
use Rattle.std.specs.Prelude.{⊤}
use Rattle.rw_outside.proofs.Came.{came_on}
use Rattle.rw_outside.proofs.reading.read_all.Goals as goal

pub returns-then-count-limit-clause-early : goal.returns-then-count-limit-clause-early
returns-then-count-limit-clause-early g c =
    came_on (λ count. c.args.limit < count) _ _ _ c.chunks.bytes.items (take c.in_ok-count.count c.take.new.room)
    c.chunks.invariant.came c.in_ok-count.ensures.bytes.0
    (simp length-append (omega (arith, c.in_ok-count.ensures.bound.1, c.chunks.bytes.ok.0)))

pub returns-in_err-extend_from_slice-clause-early :
    goal.returns-in_err-extend_from_slice-clause-early
returns-in_err-extend_from_slice-clause-early g c =
    let end = err_from_is_err_and c.from_residual-in_err-extend_from_slice.result c.from_residual-in_err-extend_from_slice.ensures.1 in
    rw (end.1, end.2) (came_on (λ count. ⊤) _ _ _ c.chunks.bytes.items (take c.in_ok-count.count c.take.new.room)
    c.chunks.invariant.came c.in_ok-count.ensures.bytes.0 tt)
