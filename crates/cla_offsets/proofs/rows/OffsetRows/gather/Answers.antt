use Rattle.std.proofs.Common.{◌≡◌, ◌+◌, ◌*◌, ◌∙◌, ℕ, length, map, ap, subst, sym, arith}
use Rattle.std.specs.Prelude.{min}
use Rattle.cla_offsets.specs.Segments.{segment_rows}
use Rattle.cla_offsets.specs.Walks.{AreCodesFrom}
use Rattle.cla_layout.specs.Groups.{AreGathered}
use Rattle.cla_offsets.proofs.SegmentRows.{segment_row, segment_size, buffer_part, buffer_kept}
use Rattle.cla_offsets.proofs.rows.OffsetRows.gather.Goals as goal

pub decode-requires-clause-rows : goal.decode-requires-clause-rows
decode-requires-clause-rows g c =
    let are = rw c.self.view_is at c.self.invariant in
    buffer_part c.args.self.now.codes c.loop-s.s c.loop-s.codes c.min.result
    c.loop-s.invariant.room (omega (arith, c.min.ensures, are.count))

pub gather_codes-requires-clause-tuples : goal.gather_codes-requires-clause-tuples
gather_codes-requires-clause-tuples g c =
    let are = rw c.self.view_is at c.self.invariant in
    rw c.decode.ensures (λ j there.
    (let row = segment_row c.args.self.now.codes c.loop-s.s j there in
    omega (arith, row.2, are.in_tuples _ row.1, c.requires.tuples, c.loop-s.auto.into, c.fill.ensures.len)))

pub gather_codes-requires-clause-so_far : goal.gather_codes-requires-clause-so_far
gather_codes-requires-clause-so_far g c =
    let codes = c.args.self.now.codes in
    let s = c.loop-s.s in
    let are = rw c.self.view_is at c.self.invariant in
    let here : min (s * segment_rows) (length codes) ≡ s * segment_rows =
    omega (arith, c.loop-s-test.true, c.segment_count-s-end.ensures, are.count) in
    rw c.decode.ensures (
      codes,
      (λ j there. sym (segment_row codes s j there).2),
      (rw here at c.loop-s.invariant.so_far),
    )

pub loop-s-preserved : goal.loop-s-preserved
loop-s-preserved g c =
    let codes = c.args.self.now.codes in
    let s = c.loop-s.s in
    let items = map g.N.Number.value c.args.rows.now in
    let are = rw c.self.view_is at c.self.invariant in
    let here : min (s * segment_rows) (length codes) ≡ s * segment_rows =
    omega (arith, c.loop-s-test.true, c.segment_count-s-end.ensures, are.count) in
    let size = ap length c.decode.ensures ∙ segment_size codes s in
    let next : s * segment_rows + length c.decode.new.into ≡ min ((s + 1) * segment_rows) (length codes) =
    omega (arith, size, here) in
    let from : AreCodesFrom (s * segment_rows) c.decode.new.into codes =
    rw c.decode.ensures (λ j row. sym (segment_row codes s j row).2) in
    let sums = c.gather_codes.ensures codes from (rw here at c.loop-s.invariant.so_far) in
    record {
      room = buffer_kept codes s c.loop-s.codes c.decode.new.into c.min.result
          c.loop-s.invariant.room (omega (arith, c.min.ensures, are.count)) c.decode.ensures;
      so_far = subst (λ (n : ℕ). AreGathered codes items n c.gather_codes.new.into) next sums;
    }
