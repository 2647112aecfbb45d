use Rattle.std.proofs.Common.{suc, arith}
use Rattle.cla_num.proofs.Sizes.{fits_by_size}
use Rattle.cla_layout.proofs.Bounds.{width_few}
use Rattle.cla_layout.proofs.Cells.{occurring_size, tuple_sum_size}
use Rattle.cla_agg.proofs.total.tuple_sum.Goals as goal

pub times-requires-clause-fits : goal.times-requires-clause-fits
times-requires-clause-fits g c =
    let laws = g.met.G.Group.laws c.args.g.now in
    rw (c.value.ensures, c.count-count.ensures, c.occurrences.ensures)
    (fits_by_size _
    (omega (
      arith,
      occurring_size _ _ _ _ laws c.requires.bits c.args.k c.loop-c.c c.requires.tuple
          (omega (arith, c.loop-c-test.true, c.width-c-end.ensures)),
    )))

pub plus-sum-requires : goal.plus-sum-requires
plus-sum-requires g c =
    let laws = g.met.G.Group.laws c.args.g.now in
    rw (c.loop-c.invariant.sum, c.times.ensures.product, c.value.ensures, c.count-count.ensures, c.occurrences.ensures)
    (fits_by_size _ (omega (
      arith,
      width_few _ _ _ _ laws,
      c.loop-c-test.true,
      c.width-c-end.ensures,
      tuple_sum_size _ _ _ _ laws c.requires.bits c.args.k (suc c.loop-c.c) c.requires.tuple
          (omega (arith, c.loop-c-test.true, c.width-c-end.ensures)),
    )))
