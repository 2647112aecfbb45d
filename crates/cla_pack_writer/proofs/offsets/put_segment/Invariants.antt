use Rattle.std.proofs.Common.{take, length, ◌++◌}
use Rattle.std.specs.List.{flat_map}
use Rattle.cla_spec.specs.Bytes.{bytes_of}
use Rattle.cla_pack_writer.specs.Outgoing.{Sent}
use Rattle.cla_pack_writer.proofs.offsets.put_segment.Given as goal

-- the offsets so far
abbrev pub invariant-loop-offset : goal.invariant-loop-offset
invariant-loop-offset g l =
    Sent g.O.Sink.told g.O.Sink.faults g.O.Sink.steady g.O.Sink.kept
    (bytes_of 2 (length l.offsets) ++ flat_map (bytes_of 2) (take l.offset-index l.offsets)) l.fn.outgoing l.fn.out
    l.outgoing l.out
