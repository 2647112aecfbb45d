use Rattle.std.proofs.Common.{◌*◌}
use Rattle.cla_offsets.specs.Segments.{segment_rows, segment_of}
use Rattle.cla_offsets.proofs.JoinedRows.{AreJoinedBelow}
use Rattle.cla_offsets.proofs.rows.OffsetRows.join_lists.Given as goal

-- the rows of the codes before code k are joined
abbrev pub invariant-loop-k : goal.invariant-loop-k
invariant-loop-k g l = record {
  joined : AreJoinedBelow g.J.Join.join (l.s * segment_rows) (segment_of l.self.codes l.s) l.parts l.k l.fn.into l.into;
}
