use Rattle.std.proofs.Common.{◌-◌, ◌*◌, ◌++◌, ◌∙◌, ℕ, List, take, drop, ap, arith}
use Rattle.cla_offsets.specs.Segments.{segment_rows}
use Rattle.cla_offsets.proofs.SegmentRows.{buffer_part, buffer_kept, codes_to, codes_more}
use Rattle.cla_offsets.proofs.rows.OffsetRows.codes_between.Goals as goal

pub decode-requires-clause-rows : goal.decode-requires-clause-rows
decode-requires-clause-rows c =
    let are = rw c.self.view_is at c.self.invariant in
    buffer_part c.args.self.now.codes c.loop-s.s c.loop-s.buffer c.min.result
    c.loop-s.invariant.room (omega (arith, c.min.ensures, are.count))

pub loop-s-preserved : goal.loop-s-preserved
loop-s-preserved c =
    let codes = c.args.self.now.codes in
    let s = c.loop-s.s in
    let first = s * segment_rows in
    let begin = c.max.result - first in
    let end = c.min-in-loop-s.result - first in
    let part = λ (xs : List ℕ). take (end - begin) (drop begin xs) in
    let are = rw c.self.view_is at c.self.invariant in
    record {
      room = buffer_kept codes s c.loop-s.buffer c.decode.new.into c.min.result
          c.loop-s.invariant.room (omega (arith, c.min.ensures, are.count)) c.decode.ensures;
      codes =
          c.in_ok-push_part.ensures ∙ ap (λ (xs : List ℕ). xs ++ part c.decode.new.into) c.loop-s.invariant.codes
          ∙ ap (λ (xs : List ℕ). codes_to codes c.args.a c.args.b s ++ part xs) c.decode.ensures
          ∙ codes_more codes c.args.a c.args.b s begin end c.requires.some
          (omega (arith, c.loop-s-test.true, c.segment_count-s-end.ensures))
          (omega (arith, c.loop-s.auto.s)) (ap (λ (x : ℕ). x - first) c.max.ensures)
          (ap (λ (x : ℕ). x - first) c.min-in-loop-s.ensures);
    }
