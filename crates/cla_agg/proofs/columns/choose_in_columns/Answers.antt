use Rattle.std.proofs.Common.{map, subst, sym, arith}
use Rattle.cla_layout.specs.GroupLaws.{IsExtreme}
use Rattle.cla_layout.specs.Layouts.{LayoutPart}
use Rattle.cla_coded.specs.Tables.{layout_of}
use Rattle.cla_agg.specs.Lines.{ArePlaced}
use Rattle.cla_agg.proofs.PartSums.{part_read, all_read, own_rows}
use Rattle.cla_agg.proofs.Extremes.{extreme_respects}
use Rattle.cla_agg.proofs.Placed.{parts_placed, all_placed}
use Rattle.cla_agg.proofs.columns.choose_in_columns.Goals as goal

pub choose_in_part-requires-clause-part : goal.choose_in_part-requires-clause-part
choose_in_part-requires-clause-part g c =
    let m = c.args.m.now in
    let codes = g.G.Group.codes in
    let dictionary = g.G.Group.dictionary in
    let q = c.loop-part.part-index in
    let part = c.part-item.result in
    let whole = c.parts-part-items.ensures.whole in
    let read = part_read g.N.Number.BITS codes dictionary m _ q part whole c.parts-part-items.ensures.parts
    c.loop-part-test.true c.part-item.is in
    own_rows _ _ _ read.is

pub choose_in_part-requires-clause-within : goal.choose_in_part-requires-clause-within
choose_in_part-requires-clause-within g c place there =
    let m = c.args.m.now in
    let codes = g.G.Group.codes in
    let dictionary = g.G.Group.dictionary in
    let q = c.loop-part.part-index in
    let part = c.part-item.result in
    let whole = c.parts-part-items.ensures.whole in
    let read = part_read g.N.Number.BITS codes dictionary m _ q part whole c.parts-part-items.ensures.parts
    c.loop-part-test.true c.part-item.is in
    omega (arith, read.columns place there, c.loop-part.auto.into, c.requires.columns)

pub loop-part-preserved : goal.loop-part-preserved
loop-part-preserved g c =
    let m = c.args.m.now in
    let codes = g.G.Group.codes in
    let dictionary = g.G.Group.dictionary in
    let q = c.loop-part.part-index in
    let part = c.part-item.result in
    let whole = c.parts-part-items.ensures.whole in
    let read = part_read g.N.Number.BITS codes dictionary m _ q part whole c.parts-part-items.ensures.parts
    c.loop-part-test.true c.part-item.is in
    let of = IsExtreme g.O.Order.before in
    let value = g.N.Number.value in
    parts_placed of (extreme_respects g.O.Order.before) g.N.Number.BITS (layout_of codes dictionary m) q
    (map value c.args.into.now) (map value c.loop-part.into) (map value c.choose_in_part.new.into) whole read.within
    (subst (λ (p : LayoutPart). ArePlaced of p (map value c.loop-part.into) (map value c.choose_in_part.new.into))
    (sym read.same) c.choose_in_part.ensures)
    c.loop-part.invariant

pub returns-clause-firsts : goal.returns-clause-firsts
returns-clause-firsts g c =
    let m = c.args.m.now in
    let codes = g.G.Group.codes in
    let dictionary = g.G.Group.dictionary in
    let q = c.loop-part.part-index in
    all_placed (IsExtreme g.O.Order.before) g.N.Number.BITS (layout_of codes dictionary m) q
    (map g.N.Number.value c.args.into.now) (map g.N.Number.value c.loop-part.into) c.parts-part-items.ensures.whole
    (all_read codes dictionary m _ q c.parts-part-items.ensures.parts (λ lt. omega (arith, lt, c.loop-part-test.false)))
    c.loop-part.invariant
