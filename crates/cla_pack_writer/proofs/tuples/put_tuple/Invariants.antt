use Rattle.std.proofs.Common.{[], take, get_or}
use Rattle.std.specs.List.{flat_map}
use Rattle.cla_spec.specs.Bytes.{value_bytes}
use Rattle.cla_pack_writer.specs.Outgoing.{Sent}
use Rattle.cla_pack_writer.proofs.tuples.put_tuple.Given as goal

-- the values before place c
abbrev pub invariant-loop-c : goal.invariant-loop-c
invariant-loop-c g l =
    Sent g.O.Sink.told g.O.Sink.faults g.O.Sink.steady g.O.Sink.kept
    (flat_map (value_bytes 8) (take l.c (get_or (g.G.Group.dictionary l.g) l.k []))) l.fn.outgoing l.fn.out l.outgoing
    l.out
