use Rattle.std.proofs.Common.{◌+◌, suc, arith}
use Rattle.cla_num.proofs.Sizes.{fits_by_size}
use Rattle.cla_layout.proofs.Bounds.{rows_few}
use Rattle.cla_layout.proofs.Cells.{occurring_size, tuples_few}
use Rattle.cla_agg.proofs.Slices.{slice_size}
use Rattle.cla_agg.proofs.columns.sum_in_column.Goals as goal

pub overflow_add-k : goal.overflow_add-k
overflow_add-k g c =
    let laws = g.met.G.Group.laws c.args.g.now in
    omega (arith, tuples_few _ _ _ _ laws, rows_few _ _ _ _ laws, c.requires.tuples, c.loop-n-test.true)

pub times-requires-clause-fits : goal.times-requires-clause-fits
times-requires-clause-fits g c =
    let laws = g.met.G.Group.laws c.args.g.now in
    rw (c.value.ensures, c.count-times.ensures, c.occurrences.ensures)
    (fits_by_size _
    (omega (
      arith,
      occurring_size _ _ _ _ laws c.requires.bits (c.args.from + c.loop-n.n) c.args.c
          (omega (arith, c.requires.tuples, c.loop-n-test.true)) c.requires.place,
    )))

pub plus-sum-requires : goal.plus-sum-requires
plus-sum-requires g c =
    let laws = g.met.G.Group.laws c.args.g.now in
    rw (c.loop-n.invariant.sum, c.times.ensures.product, c.value.ensures, c.count-times.ensures, c.occurrences.ensures)
    (fits_by_size _ (omega (
      arith,
      tuples_few _ _ _ _ laws,
      rows_few _ _ _ _ laws,
      c.requires.tuples,
      c.loop-n-test.true,
      slice_size _ _ _ _ laws c.requires.bits c.args.from c.args.c (suc c.loop-n.n) c.requires.place
          (omega (arith, c.requires.tuples, c.loop-n-test.true)),
    )))
