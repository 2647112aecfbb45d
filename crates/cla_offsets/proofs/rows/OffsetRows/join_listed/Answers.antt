use Rattle.std.proofs.Common.{◌+◌, ◌*◌, arith}
use Rattle.cla_offsets.specs.Segments.{segment_rows}
use Rattle.cla_offsets.proofs.SegmentRows.{segment_row}
use Rattle.cla_offsets.proofs.JoinedRows.{segment_joined}
use Rattle.cla_offsets.proofs.rows.OffsetRows.join_listed.Goals as goal

pub join_lists-requires-clause-fits : goal.join_lists-requires-clause-fits
join_lists-requires-clause-fits g c = λ j there.
    (let row = segment_row c.args.self.now.codes c.loop-s.s j there in
    rw (c.loop-s.invariant.joined.left (c.loop-s.s * segment_rows + j) (omega arith), row.2)
    (c.requires.fits _ (omega (arith, row.1, c.requires.rows))))

pub loop-s-preserved : goal.loop-s-preserved
loop-s-preserved g c =
    record {
      joined = segment_joined g.J.Join.join c.loop-s.s c.args.self.now.codes _ _ _ _ c.loop-s.invariant.joined
          c.join_lists.ensures;
    }
