use Rattle.std.proofs.Common.{◌≡◌, ◌+◌, ◌+ℤ◌, ℤ, take, ap, subst, sym, ◌∙◌, arith, rules}
use Rattle.std.specs.Int.{w128}
use Rattle.std.specs.Int.RustNames.{FitsSigned}
use Rattle.cla_num.proofs.Sizes.{fits_by_size}
use Rattle.cla_layout.specs.Laws.{sum_over}
use Rattle.cla_layout.specs.Layouts.{part_at}
use Rattle.cla_layout.proofs.Wholes.{same_width}
use Rattle.cla_coded.specs.Parts.{parts_of}
use Rattle.cla_coded.specs.Tables.{layout_of}
use Rattle.cla_layout.proofs.PartSums.{sum_over_more}
use Rattle.cla_layout.proofs.PartValues.{values_more, values_few}
use Rattle.cla_agg.specs.Sums.{cells_sum}
use Rattle.cla_agg.proofs.PartSums.{part_read, parts_read, part_sum, sum_size, sums_are}
use Rattle.cla_agg.proofs.total.base_sum.Goals as goal

pub group_sum-requires-clause-room : goal.group_sum-requires-clause-room
group_sum-requires-clause-room g c =
    let base = layout_of g.G.Group.codes g.G.Group.dictionary c.args.m.now in
    let whole = c.parts-part-items.ensures.whole in
    let few = values_few g.N.Number.BITS base c.loop-part.part-index whole in
    rw c.loop-part.invariant.counts (record {
      mults = omega (arith, c.requires.room.mults, few, whole.few);
      maps = omega (arith, c.requires.room.maps);
    })

pub plus-sum-requires : goal.plus-sum-requires
plus-sum-requires g c =
    let m = c.args.m.now in
    let parts = parts_of g.G.Group.codes g.G.Group.dictionary m.parts in
    let q = c.loop-part.part-index in
    let f = cells_sum m.rows in
    let whole = c.parts-part-items.ensures.whole in
    let part = part_read g.N.Number.BITS g.G.Group.codes g.G.Group.dictionary m _ q c.part-item.result whole
    c.parts-part-items.ensures.parts c.loop-part-test.true c.part-item.is in
    let one : c.group_sum.result ≡ f (part_at parts q) = c.group_sum.ensures.sum
    ∙ part_sum g.N.Number.BITS m.rows g.G.Group.columns g.G.Group.codes g.G.Group.dictionary c.part-item.result
    (g.met.G.Group.laws c.part-item.result.group) part.is ∙ ap f (sym part.same) in
    let sum : c.loop-part.sum +ℤ c.group_sum.result ≡ sum_over f (take (q + 1) parts) =
    ap (λ (z : ℤ). z +ℤ c.group_sum.result) c.loop-part.invariant.sum
    ∙ ap (λ (z : ℤ). sum_over f (take q parts) +ℤ z) one ∙ sym (sum_over_more f parts q part.within) in
    subst (FitsSigned w128) (sym sum)
    (fits_by_size _ (sum_size g.N.Number.BITS (layout_of g.G.Group.codes g.G.Group.dictionary m) (q + 1)
    c.requires.bits whole))

pub loop-part-preserved : goal.loop-part-preserved
loop-part-preserved g c =
    let m = c.args.m.now in
    let parts = parts_of g.G.Group.codes g.G.Group.dictionary m.parts in
    let q = c.loop-part.part-index in
    let f = cells_sum m.rows in
    let part = part_read g.N.Number.BITS g.G.Group.codes g.G.Group.dictionary m _ q c.part-item.result
    c.parts-part-items.ensures.whole c.parts-part-items.ensures.parts c.loop-part-test.true c.part-item.is in
    let laws = g.met.G.Group.laws c.part-item.result.group in
    let one : c.group_sum.result ≡ f (part_at parts q) = c.group_sum.ensures.sum
    ∙ part_sum g.N.Number.BITS m.rows g.G.Group.columns g.G.Group.codes g.G.Group.dictionary c.part-item.result laws
    part.is ∙ ap f (sym part.same) in
    let wide = same_width _ _ _ _ _ laws part.is.group in
    record {
      sum = c.plus-sum.ensures ∙ ap (λ (z : ℤ). z +ℤ c.group_sum.result) c.loop-part.invariant.sum
          ∙ ap (λ (z : ℤ). sum_over f (take q parts) +ℤ z) one
          ∙ sym (sum_over_more f parts q part.within);
      counts = rw (
        c.group_sum.ensures.counts,
        c.loop-part.invariant.counts,
        values_more parts q part.within,
        part.same,
        wide,
      ) (search rules);
    }

pub returns-clause-sum : goal.returns-clause-sum
returns-clause-sum g c =
    let m = c.args.m.now in
    let f = cells_sum m.rows in
    c.loop-part.invariant.sum
    ∙ ap (sum_over f) (parts_read g.G.Group.codes g.G.Group.dictionary m _ c.loop-part.part-index
    c.parts-part-items.ensures.parts (λ lt. omega (arith, lt, c.loop-part-test.false)))
    ∙ sums_are g.N.Number.BITS (layout_of g.G.Group.codes g.G.Group.dictionary m) c.parts-part-items.ensures.whole

pub returns-clause-counts : goal.returns-clause-counts
returns-clause-counts g c =
    let m = c.args.m.now in
    rw (sym (parts_read g.G.Group.codes g.G.Group.dictionary m _ c.loop-part.part-index c.parts-part-items.ensures.parts
    (λ lt. omega (arith, lt, c.loop-part-test.false)))) c.loop-part.invariant.counts
