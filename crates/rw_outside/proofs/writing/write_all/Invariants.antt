-- The rest is the text without what was appended, and the count stands.
use Rattle.std.proofs.Common.{◌≡◌, length}
use Rattle.rw_outside.proofs.Written.{IsWritten}
use Rattle.rw_outside.proofs.writing.write_all.Given as goal

abbrev pub invariant-loop-rest : goal.invariant-loop-rest
invariant-loop-rest g l = let sink = g.K.Sink in record {
  written : IsWritten (sink.held l.fn.sink) (sink.held l.sink) l.text l.rest;
  faults : sink.faults l.sink ≡ sink.faults l.fn.sink;
}

abbrev pub decreases-loop-rest : goal.decreases-loop-rest
decreases-loop-rest g l = length l.rest
