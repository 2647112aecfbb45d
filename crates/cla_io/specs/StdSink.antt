-- What a sink over a writer shows.
use Rattle.cla_io.specs.declared.std_sink.StdSink.{StdSink}

-- the writer
abbrev pub writer_of : {W : Type 0} → StdSink W → W
writer_of sink = sink.inner
