use Rattle.std.proofs.Common.{◌≡◌, ◌<◌, ◌+◌, ℕ, length, get_or, ap, subst, sym, arith}
use Rattle.cla_coded.specs.Parts.{parts_of}
use Rattle.cla_coded.specs.Tables.{layout_of}
use Rattle.cla_coded.proofs.Outlines.{parts_count}
use Rattle.cla_agg.specs.Extremes.{IsFirstOfParts}
use Rattle.cla_agg.proofs.PartSums.{part_read}
use Rattle.cla_agg.proofs.Extremes.{part_one, part_more, parts_first, first_turned, part_extreme, a_part}
use Rattle.cla_agg.proofs.extreme.first_of_table.Goals as goal

pub bounds-parts-0 : goal.bounds-parts-0
bounds-parts-0 g c =
    let some = a_part g.N.Number.BITS g.G.Group.codes g.G.Group.dictionary c.args.m.now c.parts-parts.ensures.whole in
    rw c.parts-parts.ensures.parts some

pub loop-q-init : goal.loop-q-init
loop-q-init g c =
    let m = c.args.m.now in
    let codes = g.G.Group.codes in
    let dictionary = g.G.Group.dictionary in
    let items = c.parts-parts.result.now in
    let part = get_or items 0 c.index-parts-0.result in
    let some : 0 < length items =
    rw c.parts-parts.ensures.parts (a_part g.N.Number.BITS codes dictionary m c.parts-parts.ensures.whole) in
    let read = part_read g.N.Number.BITS codes dictionary m items 0 part c.parts-parts.ensures.whole
    c.parts-parts.ensures.parts some
    (ap (get_or items 0) c.index-parts-0.is) in
    part_one g.O.Order.before g.O.Order.choice g.met.O.Order.laws (parts_of codes dictionary m.parts)
    (g.N.Number.value c.first_of_group-first.result)
    (part_extreme g.O.Order.before g.N.Number.BITS g.G.Group.columns codes dictionary m 0 part _
    (g.met.G.Group.laws part.group) read c.first_of_group-first.ensures)

pub loop-q-preserved : goal.loop-q-preserved
loop-q-preserved g c =
    let m = c.args.m.now in
    let codes = g.G.Group.codes in
    let dictionary = g.G.Group.dictionary in
    let parts = parts_of codes dictionary m.parts in
    let q = c.loop-q.q in
    let items = c.parts-parts.result.now in
    let part = get_or items q c.index-parts-q.result in
    let read = part_read g.N.Number.BITS codes dictionary m items q part c.parts-parts.ensures.whole
    c.parts-parts.ensures.parts (omega (arith, c.loop-q-test.true))
    (ap (get_or items q) c.index-parts-q.is) in
    subst (IsFirstOfParts g.O.Order.before parts (q + 1)) (sym c.chosen-first.ensures)
    (part_more g.O.Order.before g.O.Order.choice g.met.O.Order.laws parts q (g.N.Number.value c.loop-q.first)
    (g.N.Number.value c.first_of_group.result) c.loop-q.invariant
    (part_extreme g.O.Order.before g.N.Number.BITS g.G.Group.columns codes dictionary m q part _
    (g.met.G.Group.laws part.group) read c.first_of_group.ensures))

pub returns : goal.returns
returns g c =
    let m = c.args.m.now in
    let codes = g.G.Group.codes in
    let dictionary = g.G.Group.dictionary in
    let parts = parts_of codes dictionary m.parts in
    let v = g.N.Number.value c.loop-q.first in
    let whole = c.parts-parts.ensures.whole in
    let long : length c.parts-parts.result.now ≡ length m.parts = ap length c.parts-parts.ensures.parts in
    let some = a_part g.N.Number.BITS codes dictionary m whole in
    let all : c.loop-q.q ≡ length parts =
    omega (arith, c.loop-q-test.false, c.loop-q.auto.q-end, long, some, parts_count codes dictionary m.parts) in
    first_turned g.O.Order.before codes dictionary m.rows m.cols m.flipped m.parts v
    (parts_first g.O.Order.before g.O.Order.choice g.met.O.Order.laws g.N.Number.BITS (layout_of codes dictionary m) v
    whole
    (subst (λ (n : ℕ). IsFirstOfParts g.O.Order.before parts n v) all c.loop-q.invariant))
