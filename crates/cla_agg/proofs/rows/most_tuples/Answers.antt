use Rattle.std.proofs.Common.{◌≤◌, ℕ, length, subst, sym, arith, inl, inr}
use Rattle.std.proofs.Math.Nat.{le-max_left, le-max_right}
use Rattle.cla_layout.specs.Layouts.{LayoutPart, part_at}
use Rattle.cla_coded.specs.Parts.{parts_of}
use Rattle.cla_agg.proofs.PartSums.{part_read, all_read}
use Rattle.cla_agg.proofs.Extremes.{last_or_before}
use Rattle.cla_agg.proofs.rows.most_tuples.Goals as goal

pub loop-part-preserved : goal.loop-part-preserved
loop-part-preserved g c q lt =
    let m = c.args.m.now in
    let codes = g.G.Group.codes in
    let dictionary = g.G.Group.dictionary in
    let n = c.loop-part.part-index in
    let part = c.part-item.result in
    let read = part_read g.N.Number.BITS codes dictionary m _ n part c.parts-part-items.ensures.whole
    c.parts-part-items.ensures.parts c.loop-part-test.true c.part-item.is in
    let parts = parts_of codes dictionary m.parts in
    elim (last_or_before n q lt) [
      | inl last ↦ subst (λ (p : ℕ). length (part_at parts p).tuples ≤ c.max-most.result) (sym last)
          (subst (λ (p : LayoutPart). length p.tuples ≤ c.max-most.result) (sym read.same)
          (omega (arith, c.tuples.ensures, le-max_left c.tuples.result c.loop-part.most, c.max-most.ensures)))
      | inr earlier ↦ omega (
        arith,
        c.loop-part.invariant q earlier,
        le-max_right c.tuples.result c.loop-part.most,
        c.max-most.ensures,
      )
    ]

pub returns : goal.returns
returns g c q there =
    let m = c.args.m.now in
    let all = all_read g.G.Group.codes g.G.Group.dictionary m _ c.loop-part.part-index c.parts-part-items.ensures.parts
    (λ lt. omega (arith, lt, c.loop-part-test.false)) in
    c.loop-part.invariant q (omega (arith, there, all))
