use Rattle.std.proofs.Common.{◌≡◌, length}
use Rattle.cla_offsets.specs.Segments.{segment_rows}
use Rattle.cla_offsets.proofs.SegmentRows.{codes_to}
use Rattle.cla_offsets.proofs.rows.OffsetRows.codes_between.Given as goal

-- the codes of the rows before segment s
abbrev pub invariant-loop-s : goal.invariant-loop-s
invariant-loop-s l = record {
  room : length l.buffer ≡ segment_rows;
  codes : l.codes.items ≡ codes_to l.self.codes l.a l.b l.s;
}
