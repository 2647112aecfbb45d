use Rattle.std.proofs.Common.{suc, arith}
use Rattle.cla_num.proofs.Sizes.{fits_by_size}
use Rattle.cla_agg.proofs.Spread.{tuple_small}
use Rattle.cla_agg.proofs.rows.sum_of_tuple.Goals as goal

pub plus-sum-requires : goal.plus-sum-requires
plus-sum-requires g c =
    rw (c.loop-c.invariant, c.wide.ensures, c.value.ensures)
    (fits_by_size _ (tuple_small _ _ _ _ (g.met.G.Group.laws c.args.g.now) c.requires.bits c.args.k (suc c.loop-c.c)
    c.requires.tuple
    (omega (arith, c.loop-c-test.true, c.width-c-end.ensures))))
