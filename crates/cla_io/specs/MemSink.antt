-- What a sink in memory shows of its plan.
use Rattle.std.specs.Prelude.{ℕ, List}
use Rattle.cla_io.specs.declared.mem_sink.MemSink.{MemSink}

-- the numbers of the writes that fail
abbrev pub failing_writes : MemSink → List ℕ
failing_writes s = s.fail.items

-- how many writes were made
abbrev pub writes_made : MemSink → ℕ
writes_made s = s.writes
