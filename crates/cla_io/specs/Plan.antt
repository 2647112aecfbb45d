-- Calls on files by kind and number.
use Rattle.std.specs.Prelude.{ℕ}
use Rattle.cla_io.specs.Counts.{next_call}
use Rattle.cla_io.specs.declared.stop.CallKind.{CallKind}
use Rattle.cla_io.specs.declared.stop.CallKind.TheVariants.{BeginRead, Read, BeginWrite, Write, EndWrite}
use Rattle.cla_io.specs.declared.plan.Plan.{Plan}

-- how many calls of each kind were made
pub record Calls : Type 0 where
  pub begin_reads : ℕ
  pub reads : ℕ
  pub begin_writes : ℕ
  pub writes : ℕ
  pub end_writes : ℕ

abbrev pub no_calls : Calls
no_calls = record { begin_reads = 0; reads = 0; begin_writes = 0; writes = 0; end_writes = 0 }

-- how many of a kind
abbrev pub number_of : CallKind → Calls → ℕ
number_of BeginRead calls = calls.begin_reads
number_of Read calls = calls.reads
number_of BeginWrite calls = calls.begin_writes
number_of Write calls = calls.writes
number_of EndWrite calls = calls.end_writes

-- one more of a kind
abbrev pub one_more : CallKind → Calls → Calls
one_more BeginRead calls = record calls { begin_reads = next_call calls.begin_reads }
one_more Read calls = record calls { reads = next_call calls.reads }
one_more BeginWrite calls = record calls { begin_writes = next_call calls.begin_writes }
one_more Write calls = record calls { writes = next_call calls.writes }
one_more EndWrite calls = record calls { end_writes = next_call calls.end_writes }

-- the calls that a plan has counted
abbrev pub calls_of : Plan → Calls
calls_of plan = record {
  begin_reads = plan.begin_reads;
  reads = plan.reads;
  begin_writes = plan.begin_writes;
  writes = plan.writes;
  end_writes = plan.end_writes;
}
