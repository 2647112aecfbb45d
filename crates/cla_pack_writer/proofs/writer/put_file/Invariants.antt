use Rattle.std.proofs.Common.{take, length, ◌++◌}
use Rattle.std.specs.List.{flat_map}
use Rattle.cla_packed.specs.Files.{group_bytes}
use Rattle.cla_pack_writer.specs.Groups.{packed_part}
use Rattle.cla_pack_writer.specs.Outgoing.{Sent}
use Rattle.cla_pack_writer.proofs.Files.{header_bytes}
use Rattle.cla_pack_writer.proofs.writer.put_file.Given as goal

-- the header, and the groups so far
abbrev pub invariant-loop-part : goal.invariant-loop-part
invariant-loop-part g l =
    Sent g.O.Sink.told g.O.Sink.faults g.O.Sink.steady g.O.Sink.kept
    (header_bytes l.m.rows l.m.cols (length l.m.parts) ++ flat_map (λ part. group_bytes 8 l.m.rows (packed_part part))
    (take l.part-index l.m.parts))
    l.fn.outgoing l.fn.out l.outgoing l.out
