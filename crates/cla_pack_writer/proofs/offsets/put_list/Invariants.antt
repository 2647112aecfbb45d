use Rattle.std.specs.List.{flat_map, range_with_len}
use Rattle.cla_offsets.specs.Members.{offsets_codes}
use Rattle.cla_offsets.specs.Segments.{segment_offsets}
use Rattle.cla_pack_writer.specs.Listed.{counted_offsets}
use Rattle.cla_pack_writer.specs.Outgoing.{Sent}
use Rattle.cla_pack_writer.proofs.offsets.put_list.Given as goal

-- the segments before segment s
abbrev pub invariant-loop-s : goal.invariant-loop-s
invariant-loop-s g l =
    Sent g.O.Sink.told g.O.Sink.faults g.O.Sink.steady g.O.Sink.kept
    (flat_map (λ s. counted_offsets (segment_offsets (offsets_codes l.g) l.k s)) (range_with_len 0 l.s)) l.fn.outgoing
    l.fn.out l.outgoing l.out
