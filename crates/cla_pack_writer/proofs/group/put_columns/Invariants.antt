use Rattle.std.proofs.Common.{take, length, ◌++◌}
use Rattle.std.specs.List.{flat_map}
use Rattle.cla_spec.specs.Bytes.{bytes_of}
use Rattle.cla_pack_writer.specs.Outgoing.{Sent}
use Rattle.cla_pack_writer.proofs.group.put_columns.Given as goal

-- the columns so far
abbrev pub invariant-loop-column : goal.invariant-loop-column
invariant-loop-column g l =
    Sent g.O.Sink.told g.O.Sink.faults g.O.Sink.steady g.O.Sink.kept
    (bytes_of 4 (length l.columns) ++ flat_map (bytes_of 4) (take l.column-index l.columns)) l.fn.outgoing l.fn.out
    l.outgoing l.out
