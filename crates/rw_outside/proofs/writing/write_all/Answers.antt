use Rattle.std.proofs.Common.{arith, ◌∙◌}
use Rattle.std.proofs.lemmas.Result.{err_from_is_err_and}
use Rattle.rw_outside.proofs.Written.{written_more, written_part}
use Rattle.rw_outside.proofs.writing.write_all.Goals as goal

pub returns-in_err-count-clause-bytes : goal.returns-in_err-count-clause-bytes
returns-in_err-count-clause-bytes g c =
    let end = err_from_is_err_and c.from_residual.result c.from_residual.ensures.1 in
    rw (end.1, end.2) (written_part _ _ _ _ _ c.loop-rest.invariant.written (grind arith) c.in_err-count.ensures.bytes)

pub loop-rest-preserved : goal.loop-rest-preserved
loop-rest-preserved g c = record {
  written = rw c.split_at.ensures.back (written_more _ _ _ _ _ c.in_ok-count.count c.loop-rest.invariant.written c.in_ok-count.ensures.bytes);
  faults = c.in_ok-count.ensures.faults ∙ c.loop-rest.invariant.faults;
}
