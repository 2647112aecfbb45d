use Rattle.std.proofs.Common.{◌≡◌, ◌≤◌, suc, length, ap, sym, ◌∙◌, arith}
use Rattle.std.proofs.Math.Nat.{mul-le-mul_right}
use Rattle.cla_spec.specs.Numbers.{sum_to}
use Rattle.cla_num.proofs.Sizes.{fits_by_size}
use Rattle.cla_layout.proofs.Cells.{occurring, sum_by_tuples, total_size, values_few}
use Rattle.cla_agg.proofs.total.sum_by_tuples.Goals as goal

pub tuple_sum-requires-clause-room : goal.tuple_sum-requires-clause-room
tuple_sum-requires-clause-room g c =
    let laws = g.met.G.Group.laws c.args.g.now in
    let width = g.G.Group.columns c.args.g.now in
    let few = values_few _ _ _ _ laws in
    let before : c.loop-k.k ≤ length (g.G.Group.dictionary c.args.g.now) =
    omega (arith, c.loop-k-test.true, c.tuples-k-end.ensures) in
    rw c.loop-k.invariant.counts
    (record {
      mults = omega (arith, c.requires.room.mults, few, mul-le-mul_right width before);
      maps = omega (arith, c.requires.room.maps);
    })

pub plus-sum-requires : goal.plus-sum-requires
plus-sum-requires g c =
    let laws = g.met.G.Group.laws c.args.g.now in
    rw (c.loop-k.invariant.sum, c.tuple_sum.ensures.sum)
    (fits_by_size _
    (omega (
      arith,
      total_size _ _ _ _ laws c.requires.bits (suc c.loop-k.k)
          (omega (arith, c.loop-k-test.true, c.tuples-k-end.ensures)),
    )))

pub returns-clause-sum : goal.returns-clause-sum
returns-clause-sum g c =
    let laws = g.met.G.Group.laws c.args.g.now in
    let codes = g.G.Group.codes c.args.g.now in
    let tuples = g.G.Group.dictionary c.args.g.now in
    let width = g.G.Group.columns c.args.g.now in
    let all : c.loop-k.k ≡ length tuples =
    omega (arith, c.loop-k-test.false, c.tuples-k-end.ensures, c.loop-k.auto.k-end) in
    c.loop-k.invariant.sum ∙ ap (sum_to (λ k. sum_to (occurring codes tuples k) width)) all
    ∙ sym (sum_by_tuples _ _ _ _ laws)
