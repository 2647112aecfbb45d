use Rattle.std.proofs.Common.{ℕ, List, length, ◌++◌}
use Rattle.std.specs.List.{flat_map}
use Rattle.cla_rows.specs.CodeRuns.{listed_begins}
use Rattle.cla_spec.specs.Bytes.{bytes_of}
use Rattle.cla_packed.specs.Runs.{Run, run_bytes}
use Rattle.cla_pack_writer.specs.Listed.{IsListOf}
use Rattle.cla_pack_writer.specs.Outgoing.{Sent}
use Rattle.cla_pack_writer.proofs.CodeRuns.{IsAtRun}
use Rattle.cla_pack_writer.proofs.runs.put_list.Given as goal

-- the runs so far
abbrev pub invariant-loop-number : goal.invariant-loop-number
invariant-loop-number g l = (k : ℕ) → IsListOf l.rows k l.numbers → (done : List Run) × IsAtRun l.rows.codes
    (listed_begins l.rows.codes l.rows.rest) l.numbers k l.number-index l.end done
    × Sent g.O.Sink.told g.O.Sink.faults g.O.Sink.steady g.O.Sink.kept
    (bytes_of 4 (length l.numbers) ++ flat_map run_bytes done) l.fn.outgoing l.fn.out l.outgoing l.out
