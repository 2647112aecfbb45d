use Rattle.std.proofs.Common.{length, ◌-◌, ◌≤◌}
use Rattle.cla_offsets.specs.Members.{offsets_codes}
use Rattle.cla_packed.specs.Offsets.{offsets_bytes}
use Rattle.cla_pack_writer.specs.Listed.{lists_from}
use Rattle.cla_pack_writer.specs.Outgoing.{Sent}
use Rattle.cla_pack_writer.proofs.offsets.put_lists.Given as goal

-- the lists of the codes before code k
abbrev pub invariant-loop-k : goal.invariant-loop-k
invariant-loop-k g l = let codes = offsets_codes l.g in record {
  from : l.a ≤ l.k;
  sent : Sent g.O.Sink.told g.O.Sink.faults g.O.Sink.steady g.O.Sink.kept
      (lists_from (offsets_bytes 32768 (length codes)) codes l.a (l.k - l.a)) l.fn.outgoing l.fn.out l.outgoing l.out;
}
