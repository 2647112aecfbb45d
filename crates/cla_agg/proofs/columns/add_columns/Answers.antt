use Rattle.std.proofs.Common.{◌≡◌, ◌<◌, length, ap, subst, sym, ◌∙◌, arith, rules}
use Rattle.cla_layout.specs.Layouts.{LayoutPart, column_at, part_at}
use Rattle.cla_layout.proofs.PartValues.{values_more, values_few}
use Rattle.cla_coded.specs.Parts.{parts_of}
use Rattle.cla_coded.specs.Tables.{layout_of}
use Rattle.cla_agg.specs.Lines.{IsSumOf, ArePlaced}
use Rattle.cla_agg.proofs.PartSums.{part_read, parts_read, all_read, own_rows, sum_respects}
use Rattle.cla_agg.proofs.Placed.{parts_placed, all_placed, not_yet}
use Rattle.cla_agg.proofs.columns.add_columns.Goals as goal

pub add_part-requires-clause-part : goal.add_part-requires-clause-part
add_part-requires-clause-part g c =
    let m = c.args.m.now in
    let codes = g.G.Group.codes in
    let dictionary = g.G.Group.dictionary in
    let q = c.loop-part.part-index in
    let part = c.part-item.result in
    let whole = c.parts-part-items.ensures.whole in
    let read = part_read g.N.Number.BITS codes dictionary m _ q part whole c.parts-part-items.ensures.parts
    c.loop-part-test.true c.part-item.is in
    own_rows _ _ _ read.is

pub add_part-requires-clause-room : goal.add_part-requires-clause-room
add_part-requires-clause-room g c =
    let base = layout_of g.G.Group.codes g.G.Group.dictionary c.args.m.now in
    let whole = c.parts-part-items.ensures.whole in
    let few = values_few g.N.Number.BITS base c.loop-part.part-index whole in
    rw c.loop-part.invariant.counts
    (record {
      mults = omega (arith, c.requires.room.mults, few, whole.few);
      maps = omega (arith, c.requires.room.maps);
    })

pub add_part-requires-clause-within : goal.add_part-requires-clause-within
add_part-requires-clause-within g c place there =
    let m = c.args.m.now in
    let codes = g.G.Group.codes in
    let dictionary = g.G.Group.dictionary in
    let q = c.loop-part.part-index in
    let part = c.part-item.result in
    let whole = c.parts-part-items.ensures.whole in
    let read = part_read g.N.Number.BITS codes dictionary m _ q part whole c.parts-part-items.ensures.parts
    c.loop-part-test.true c.part-item.is in
    omega (arith, read.columns place there, c.loop-part.auto.into, c.requires.columns)

pub add_part-requires-clause-zeros : goal.add_part-requires-clause-zeros
add_part-requires-clause-zeros g c place there =
    let m = c.args.m.now in
    let codes = g.G.Group.codes in
    let dictionary = g.G.Group.dictionary in
    let q = c.loop-part.part-index in
    let part = c.part-item.result in
    let whole = c.parts-part-items.ensures.whole in
    let read = part_read g.N.Number.BITS codes dictionary m _ q part whole c.parts-part-items.ensures.parts
    c.loop-part-test.true c.part-item.is in
    let columns : (part_at (parts_of codes dictionary m.parts) q).columns ≡ part.columns.items =
    ap (λ (p : LayoutPart). p.columns) read.same in
    let place_there : place < length (part_at (parts_of codes dictionary m.parts) q).columns = rw columns there in
    rw columns at (not_yet IsSumOf g.N.Number.BITS (layout_of codes dictionary m) q place c.args.into.now
    c.loop-part.into
    whole read.within place_there c.loop-part.invariant.sums)
    ∙ c.requires.zeros (column_at part.columns.items place)

pub loop-part-preserved : goal.loop-part-preserved
loop-part-preserved g c =
    let m = c.args.m.now in
    let codes = g.G.Group.codes in
    let dictionary = g.G.Group.dictionary in
    let q = c.loop-part.part-index in
    let part = c.part-item.result in
    let whole = c.parts-part-items.ensures.whole in
    let read = part_read g.N.Number.BITS codes dictionary m _ q part whole c.parts-part-items.ensures.parts
    c.loop-part-test.true c.part-item.is in
    record {
      sums = parts_placed IsSumOf sum_respects g.N.Number.BITS (layout_of codes dictionary m) q
          c.args.into.now c.loop-part.into c.add_part.new.into whole read.within
          (subst (λ (p : LayoutPart). ArePlaced IsSumOf p c.loop-part.into c.add_part.new.into) (sym read.same)
          c.add_part.ensures.sums)
          c.loop-part.invariant.sums;
      counts =
          rw (
            c.add_part.ensures.counts,
            c.loop-part.invariant.counts,
            values_more (parts_of codes dictionary m.parts) q read.within,
            read.same,
          ) (search rules);
    }

pub returns-clause-sums : goal.returns-clause-sums
returns-clause-sums g c =
    let m = c.args.m.now in
    let codes = g.G.Group.codes in
    let dictionary = g.G.Group.dictionary in
    let q = c.loop-part.part-index in
    all_placed IsSumOf g.N.Number.BITS (layout_of codes dictionary m) q
    c.args.into.now c.loop-part.into c.parts-part-items.ensures.whole
    (all_read codes dictionary m _ q c.parts-part-items.ensures.parts (λ lt. omega (arith, lt, c.loop-part-test.false)))
    c.loop-part.invariant.sums

pub returns-clause-counts : goal.returns-clause-counts
returns-clause-counts g c =
    let m = c.args.m.now in
    rw (sym (parts_read g.G.Group.codes g.G.Group.dictionary m _ c.loop-part.part-index c.parts-part-items.ensures.parts
    (λ lt. omega (arith, lt, c.loop-part-test.false))))
    c.loop-part.invariant.counts
