use Rattle.std.proofs.Common.{◌≡◌, length}
use Rattle.cla_offsets.specs.Segments.{segment_rows}
use Rattle.cla_offsets.proofs.JoinedRows.{AreJoinedTo}
use Rattle.cla_offsets.proofs.rows.OffsetRows.join_decoded.Given as goal

-- the rows before segment s are joined
abbrev pub invariant-loop-s : goal.invariant-loop-s
invariant-loop-s g l = record {
  room : length l.codes ≡ segment_rows;
  joined : AreJoinedTo g.J.Join.join l.s l.self.codes l.parts l.fn.into l.into;
}
