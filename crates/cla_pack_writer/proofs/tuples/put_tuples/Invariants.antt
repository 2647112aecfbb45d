use Rattle.std.proofs.Common.{take, drop, ◌-◌, ◌≤◌}
use Rattle.std.specs.List.{flat_map}
use Rattle.cla_packed.specs.Values.{tuple_bytes}
use Rattle.cla_pack_writer.specs.Outgoing.{Sent}
use Rattle.cla_pack_writer.proofs.tuples.put_tuples.Given as goal

-- the tuples before tuple k
abbrev pub invariant-loop-k : goal.invariant-loop-k
invariant-loop-k g l = record {
  from : l.a ≤ l.k;
  sent : Sent g.O.Sink.told g.O.Sink.faults g.O.Sink.steady g.O.Sink.kept
      (flat_map (tuple_bytes 8) (take (l.k - l.a) (drop l.a (g.G.Group.dictionary l.g)))) l.fn.outgoing l.fn.out
      l.outgoing l.out;
}
