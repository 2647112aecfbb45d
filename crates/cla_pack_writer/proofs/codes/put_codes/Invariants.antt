use Rattle.std.proofs.Common.{take}
use Rattle.std.specs.List.{flat_map}
use Rattle.cla_spec.specs.Bytes.{bytes_of}
use Rattle.cla_pack_writer.specs.Outgoing.{Sent}
use Rattle.cla_pack_writer.proofs.codes.put_codes.Given as goal

-- the codes of the rows before row i
abbrev pub invariant-loop-i : goal.invariant-loop-i
invariant-loop-i g l =
    Sent g.O.Sink.told g.O.Sink.faults g.O.Sink.steady g.O.Sink.kept
    (flat_map (bytes_of l.bytes) (take l.i (g.G.Group.codes l.g))) l.fn.outgoing l.fn.out l.outgoing l.out
