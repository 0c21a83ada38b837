-- The bytes are what came so far, within the limit, and the count stands.
use Rattle.std.proofs.Common.{◌-◌, ◌≤◌, ◌≡◌, length}
use Rattle.std.specs.Prelude.{vec_len}
use Rattle.std.specs.Io.KnownBytes.{Consumes}
use Rattle.rw_outside.proofs.reading.read_all.Given as goal

abbrev pub invariant-chunks : goal.invariant-chunks
invariant-chunks g l = let source = g.S.Source in record {
  came : Consumes (source.left l.fn.source) (source.left l.source) l.bytes.items;
  within : length l.bytes.items ≤ l.limit;
  faults : source.faults l.source ≡ source.faults l.fn.source;
}

abbrev pub decreases-chunks : goal.decreases-chunks
decreases-chunks g l = l.limit - vec_len l.bytes
