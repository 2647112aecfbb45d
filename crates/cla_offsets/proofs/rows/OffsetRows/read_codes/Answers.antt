use Rattle.std.proofs.Common.{◌≡◌, ◌-◌, ◌*◌, ◌∙◌, length, length-take, drop, sym, arith}
use Rattle.std.specs.Prelude.{min}
use Rattle.std.proofs.lemmas.List.{length-drop, take_all}
use Rattle.cla_offsets.specs.Segments.{segment_rows}
use Rattle.cla_offsets.proofs.SegmentRows.{segment_size, codes_written}
use Rattle.cla_offsets.proofs.rows.OffsetRows.read_codes.Goals as goal

pub decode-requires-clause-rows : goal.decode-requires-clause-rows
decode-requires-clause-rows c =
    let codes = c.args.self.now.codes in
    let first = c.loop-s.s * segment_rows in
    let are = rw c.self.view_is at c.self.invariant in
    omega (
      arith,
      length-take (c.min-end.result - first) (drop first c.loop-s.into),
      length-drop first c.loop-s.into,
      segment_size codes c.loop-s.s,
      c.min-end.ensures,
      are.count,
      c.loop-s.auto.into,
      c.requires,
    )

pub loop-s-preserved : goal.loop-s-preserved
loop-s-preserved c =
    let are = rw c.self.view_is at c.self.invariant in
    codes_written c.args.self.now.codes c.loop-s.s c.min-end.result c.loop-s.into c.decode.new.into
    (omega (arith, c.loop-s-test.true, c.segment_count-s-end.ensures, are.count))
    (omega (arith, c.loop-s.auto.into, c.requires)) (omega (arith, c.min-end.ensures, are.count)) c.decode.ensures
    c.loop-s.invariant

pub returns : goal.returns
returns c =
    let codes = c.args.self.now.codes in
    let rows = length codes in
    let are = rw c.self.view_is at c.self.invariant in
    let all : min rows (c.loop-s.s * segment_rows) ≡ rows =
    omega (arith, c.loop-s-test.false, c.segment_count-s-end.ensures, are.count) in
    sym (take_all rows c.loop-s.into (omega (arith, c.loop-s.auto.into, c.requires))) ∙ rw all at c.loop-s.invariant
    ∙ take_all rows codes (omega arith)
