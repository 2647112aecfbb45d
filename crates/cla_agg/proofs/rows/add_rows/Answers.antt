use Rattle.std.proofs.Common.{◌≡◌, ◌<◌, ◌≤◌, ◌+◌, ◌+ℤ◌, ℤ, length, take, ap, subst, sym, ◌∙◌, arith}
use Rattle.std.specs.Int.{w128}
use Rattle.std.specs.Int.RustNames.{FitsSigned}
use Rattle.cla_num.proofs.Sizes.{fits_by_size}
use Rattle.cla_layout.specs.Groups.{at, cell_of}
use Rattle.cla_layout.specs.Layouts.{LayoutPart, part_at}
use Rattle.cla_layout.specs.Laws.{sum_over}
use Rattle.cla_layout.proofs.PartSums.{sum_over_more}
use Rattle.cla_coded.specs.Parts.{parts_of}
use Rattle.cla_coded.specs.Tables.{layout_of}
use Rattle.cla_meaning.specs.Entries.{row_sum}
use Rattle.cla_agg.proofs.PartSums.{part_read, parts_read}
use Rattle.cla_agg.proofs.Spread.{part_row, group_row, row_size, row_is}
use Rattle.cla_agg.proofs.rows.add_rows.Goals as goal

pub add_group-requires-clause-rows : goal.add_group-requires-clause-rows
add_group-requires-clause-rows g c =
    let m = c.args.m.now in
    let codes = g.G.Group.codes in
    let dictionary = g.G.Group.dictionary in
    let q = c.loop-part.part-index in
    let part = c.part-item.result in
    let whole = c.parts-part-items.ensures.whole in
    let read = part_read g.N.Number.BITS codes dictionary m _ q part whole c.parts-part-items.ensures.parts
    c.loop-part-test.true c.part-item.is in
    c.loop-part.auto.into ∙ c.requires.rows ∙ sym read.is.a_code_each

pub add_group-requires-clause-scratch : goal.add_group-requires-clause-scratch
add_group-requires-clause-scratch g c =
    let m = c.args.m.now in
    let codes = g.G.Group.codes in
    let dictionary = g.G.Group.dictionary in
    let q = c.loop-part.part-index in
    let part = c.part-item.result in
    let whole = c.parts-part-items.ensures.whole in
    let read = part_read g.N.Number.BITS codes dictionary m _ q part whole c.parts-part-items.ensures.parts
    c.loop-part-test.true c.part-item.is in
    let few = subst (λ (p : LayoutPart). length p.tuples ≤ length c.args.scratch.now) read.same
    (c.requires.scratch q read.within) in
    omega (arith, few, c.loop-part.auto.scratch)

pub add_group-requires-clause-fits : goal.add_group-requires-clause-fits
add_group-requires-clause-fits g c i there =
    let m = c.args.m.now in
    let codes = g.G.Group.codes in
    let dictionary = g.G.Group.dictionary in
    let q = c.loop-part.part-index in
    let part = c.part-item.result in
    let whole = c.parts-part-items.ensures.whole in
    let read = part_read g.N.Number.BITS codes dictionary m _ q part whole c.parts-part-items.ensures.parts
    c.loop-part-test.true c.part-item.is in
    let parts = parts_of codes dictionary m.parts in
    let more = row_sum (g.G.Group.columns part.group) (cell_of (codes part.group) (dictionary part.group)) i in
    let one : more ≡ part_row i (part_at parts q) =
    group_row g.N.Number.BITS m.rows g.G.Group.columns codes dictionary part i (g.met.G.Group.laws part.group) read.is
    ∙ ap (part_row i) (sym read.same) in
    let sum : at c.loop-part.into i +ℤ more ≡ sum_over (part_row i) (take (q + 1) parts) =
    ap (λ (z : ℤ). z +ℤ more) (c.loop-part.invariant i there)
    ∙ ap (λ (z : ℤ). sum_over (part_row i) (take q parts) +ℤ z) one
    ∙ sym (sum_over_more (part_row i) parts q read.within) in
    let row : i < m.rows = omega (arith, there, c.loop-part.auto.into, c.requires.rows) in
    subst (FitsSigned w128) (sym sum)
    (fits_by_size _ (row_size g.N.Number.BITS (layout_of codes dictionary m) i (q + 1) c.requires.bits whole row))

pub loop-part-preserved : goal.loop-part-preserved
loop-part-preserved g c i there =
    let m = c.args.m.now in
    let codes = g.G.Group.codes in
    let dictionary = g.G.Group.dictionary in
    let q = c.loop-part.part-index in
    let part = c.part-item.result in
    let whole = c.parts-part-items.ensures.whole in
    let read = part_read g.N.Number.BITS codes dictionary m _ q part whole c.parts-part-items.ensures.parts
    c.loop-part-test.true c.part-item.is in
    let parts = parts_of codes dictionary m.parts in
    let more = row_sum (g.G.Group.columns part.group) (cell_of (codes part.group) (dictionary part.group)) i in
    let one : more ≡ part_row i (part_at parts q) =
    group_row g.N.Number.BITS m.rows g.G.Group.columns codes dictionary part i (g.met.G.Group.laws part.group) read.is
    ∙ ap (part_row i) (sym read.same) in
    let before : i < length c.loop-part.into = omega (arith, there, c.add_group.auto.into) in
    c.add_group.ensures i before ∙ ap (λ (z : ℤ). z +ℤ more) (c.loop-part.invariant i before)
    ∙ ap (λ (z : ℤ). sum_over (part_row i) (take q parts) +ℤ z) one
    ∙ sym (sum_over_more (part_row i) parts q read.within)

pub returns-clause-sums : goal.returns-clause-sums
returns-clause-sums g c i row =
    let m = c.args.m.now in
    let codes = g.G.Group.codes in
    let dictionary = g.G.Group.dictionary in
    let there : i < length c.loop-part.into = omega (arith, row, c.loop-part.auto.into, c.requires.rows) in
    c.loop-part.invariant i there
    ∙ ap (sum_over (part_row i))
    (parts_read codes dictionary m _ c.loop-part.part-index c.parts-part-items.ensures.parts
    (λ lt. omega (arith, lt, c.loop-part-test.false)))
    ∙ row_is g.N.Number.BITS (layout_of codes dictionary m) i c.parts-part-items.ensures.whole
