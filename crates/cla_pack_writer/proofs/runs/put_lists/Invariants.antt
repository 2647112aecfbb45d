use Rattle.std.proofs.Common.{◌-◌, ◌≤◌}
use Rattle.cla_packed.specs.Runs.{runs_bytes}
use Rattle.cla_pack_writer.specs.Listed.{lists_from}
use Rattle.cla_pack_writer.specs.Outgoing.{Sent}
use Rattle.cla_pack_writer.proofs.runs.put_lists.Given as goal

-- the runs of the codes before code k
abbrev pub invariant-loop-k : goal.invariant-loop-k
invariant-loop-k g l = record {
  from : l.a ≤ l.k;
  sent : Sent g.O.Sink.told g.O.Sink.faults g.O.Sink.steady g.O.Sink.kept
      (lists_from runs_bytes l.rows.codes l.a (l.k - l.a)) l.fn.outgoing l.fn.out l.outgoing l.out;
}
