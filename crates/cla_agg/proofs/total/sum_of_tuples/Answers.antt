use Rattle.std.proofs.Common.{◌≡◌, ◌+◌, ◌≤◌, ◌*◌, suc, ℕ, length, ap, ◌∙◌, arith}
use Rattle.std.proofs.Math.Nat.{mul-le-mul_right}
use Rattle.cla_spec.specs.Numbers.{sum_to}
use Rattle.cla_spec.specs.Matrix.{most_cells}
use Rattle.cla_spec.proofs.Sums.{sum_to-swap}
use Rattle.cla_num.proofs.Sizes.{fits_by_size}
use Rattle.cla_layout.proofs.Cells.{occurring, values_few}
use Rattle.cla_agg.proofs.Slices.{block_size}
use Rattle.cla_agg.proofs.total.sum_of_tuples.Goals as goal

pub sum_in_column-requires-clause-room : goal.sum_in_column-requires-clause-room
sum_in_column-requires-clause-room g c =
    let laws = g.met.G.Group.laws c.args.g.now in
    let width = g.G.Group.columns c.args.g.now in
    let before : c.loop-c.c ≤ width = omega (arith, c.loop-c-test.true, c.width-c-end.ensures) in
    let rows : c.args.count ≤ length (g.G.Group.dictionary c.args.g.now) = omega (arith, c.requires.tuples) in
    let few : c.loop-c.c * c.args.count ≤ most_cells =
    omega (arith, values_few _ _ _ _ laws, mul-le-mul_right width rows, mul-le-mul_right c.args.count before) in
    rw c.loop-c.invariant.counts
    (record {
      mults = omega (arith, c.requires.room.mults, few);
      maps = omega (arith, c.requires.room.maps);
    })

pub plus-sum-requires : goal.plus-sum-requires
plus-sum-requires g c =
    let laws = g.met.G.Group.laws c.args.g.now in
    rw (c.loop-c.invariant.sum, c.sum_in_column.ensures.sum)
    (fits_by_size _ (omega (
      arith,
      block_size _ _ _ _ laws c.requires.bits c.args.from c.args.count (suc c.loop-c.c)
          (omega (arith, c.loop-c-test.true, c.width-c-end.ensures)) c.requires.tuples,
    )))

pub returns-clause-sum : goal.returns-clause-sum
returns-clause-sum g c =
    let codes = g.G.Group.codes c.args.g.now in
    let tuples = g.G.Group.dictionary c.args.g.now in
    let width = g.G.Group.columns c.args.g.now in
    let all : c.loop-c.c ≡ width =
    omega (arith, c.loop-c-test.false, c.width-c-end.ensures, c.loop-c.auto.c-end) in
    c.loop-c.invariant.sum
    ∙ ap (sum_to (λ (d : ℕ). sum_to (λ (n : ℕ). occurring codes tuples (c.args.from + n) d) c.args.count)) all
    ∙ sum_to-swap (λ d n. occurring codes tuples (c.args.from + n) d) width c.args.count
