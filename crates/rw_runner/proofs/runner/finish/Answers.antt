use Rattle.std.proofs.Common.{◌≡◌, ◌∙◌, List, ℕ}
use Rattle.std.proofs.lemmas.Result.{err_from_is_err_and}
use Rattle.rw_runner.specs.Endings.{end_of}
use Rattle.rw_runner.proofs.Finishing.{flush_failed}
use Rattle.rw_runner.proofs.runner.finish.Goals as goal

pub returns-in_err-flush-clause-ends : goal.returns-in_err-flush-clause-ends
returns-in_err-flush-clause-ends g c state rows fuel =
    let line : c.as_slice.result.now ≡ g.W.World.lines.last (end_of c.args.close) state = c.as_slice.ensures.value ∙ c.in_ok-line.ensures state rows fuel in
    let end = err_from_is_err_and c.from_residual-in_err-flush.result c.from_residual-in_err-flush.ensures.1 in
    rw (end.1, end.2, ← line) (flush_failed _ _ _ _ _ _ c.in_ok-put.ensures.bytes c.in_err-flush.ensures.bytes)
