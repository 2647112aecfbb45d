use Rattle.cla_offsets.proofs.JoinedRows.{AreJoinedTo}
use Rattle.cla_offsets.proofs.rows.OffsetRows.join_listed.Given as goal

-- the rows before segment s are joined
abbrev pub invariant-loop-s : goal.invariant-loop-s
invariant-loop-s g l = record { joined : AreJoinedTo g.J.Join.join l.s l.self.codes l.parts l.fn.into l.into }
