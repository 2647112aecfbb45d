use Rattle.std.proofs.Common.{◌+◌, ◌*◌, arith}
use Rattle.cla_offsets.specs.Segments.{segment_rows}
use Rattle.cla_offsets.proofs.SegmentRows.{segment_row, buffer_part, buffer_kept}
use Rattle.cla_offsets.proofs.JoinedRows.{segment_joined}
use Rattle.cla_offsets.proofs.rows.OffsetRows.join_decoded.Goals as goal

pub decode-requires-clause-rows : goal.decode-requires-clause-rows
decode-requires-clause-rows g c =
    let are = rw c.self.view_is at c.self.invariant in
    buffer_part c.args.self.now.codes c.loop-s.s c.loop-s.codes c.min.result
    c.loop-s.invariant.room (omega (arith, c.min.ensures, are.count))

pub join_codes-requires-clause-tuples : goal.join_codes-requires-clause-tuples
join_codes-requires-clause-tuples g c =
    let are = rw c.self.view_is at c.self.invariant in
    rw c.decode.ensures (λ j there.
    (let row = segment_row c.args.self.now.codes c.loop-s.s j there in
    omega (arith, row.2, are.in_tuples _ row.1, c.requires.tuples)))

pub join_codes-requires-clause-fits : goal.join_codes-requires-clause-fits
join_codes-requires-clause-fits g c = rw c.decode.ensures (λ j there.
    (let row = segment_row c.args.self.now.codes c.loop-s.s j there in
    rw (c.loop-s.invariant.joined.left (c.loop-s.s * segment_rows + j) (omega arith), row.2)
    (c.requires.fits _ (omega (arith, row.1, c.requires.rows)))))

pub loop-s-preserved : goal.loop-s-preserved
loop-s-preserved g c =
    let codes = c.args.self.now.codes in
    let are = rw c.self.view_is at c.self.invariant in
    let more = rw c.decode.ensures at c.join_codes.ensures in
    record {
      room = buffer_kept codes c.loop-s.s c.loop-s.codes c.decode.new.into c.min.result
          c.loop-s.invariant.room (omega (arith, c.min.ensures, are.count)) c.decode.ensures;
      joined = segment_joined g.J.Join.join c.loop-s.s codes _ _ _ _ c.loop-s.invariant.joined more;
    }
