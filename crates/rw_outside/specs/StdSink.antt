-- What a sink over std's writer is made of.
use Rattle.rw_outside.specs.declared.std_sink.StdSink.{StdSink}

-- the writer that the bytes go to
abbrev pub writer_of : {W : Type 0} → StdSink W → W
writer_of sink = sink.writer
