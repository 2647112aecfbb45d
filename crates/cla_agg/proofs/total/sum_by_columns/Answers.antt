use Rattle.std.proofs.Common.{◌≡◌, ◌+◌, ◌≤◌, ◌+ℤ◌, ℕ, ℤ, length, ap, subst, sym, ◌∙◌, arith}
use Rattle.std.specs.Int.{w128}
use Rattle.std.specs.Int.RustNames.{FitsSigned}
use Rattle.std.proofs.Math.Nat.{mul-le-mul_right}
use Rattle.cla_spec.specs.Numbers.{sum_to}
use Rattle.cla_spec.proofs.Sums.{sum_to-split}
use Rattle.cla_num.proofs.Sizes.{fits_by_size}
use Rattle.cla_layout.proofs.Cells.{occurring, sum_by_tuples, total_size, values_few}
use Rattle.cla_agg.proofs.Slices.{raised_more}
use Rattle.cla_agg.proofs.total.sum_by_columns.Goals as goal

pub sum_of_tuples-requires-clause-room : goal.sum_of_tuples-requires-clause-room
sum_of_tuples-requires-clause-room g c =
    let laws = g.met.G.Group.laws c.args.g.now in
    let width = g.G.Group.columns c.args.g.now in
    let few = values_few _ _ _ _ laws in
    let before : c.loop-from.from ≤ length (g.G.Group.dictionary c.args.g.now) =
    omega (arith, c.loop-from-test.true, c.tuples-tuples.ensures) in
    rw c.loop-from.invariant.counts
    (record {
      mults = omega (arith, c.requires.room.mults, few, mul-le-mul_right width before);
      maps = omega (arith, c.requires.room.maps);
    })

pub sum_of_tuples-requires-clause-tuples : goal.sum_of_tuples-requires-clause-tuples
sum_of_tuples-requires-clause-tuples g c =
    omega (arith, c.min-count.ensures, c.loop-from-test.true, c.tuples-tuples.ensures)

pub plus-sum-requires : goal.plus-sum-requires
plus-sum-requires g c =
    let laws = g.met.G.Group.laws c.args.g.now in
    let codes = g.G.Group.codes c.args.g.now in
    let tuples = g.G.Group.dictionary c.args.g.now in
    let width = g.G.Group.columns c.args.g.now in
    let f = λ (k : ℕ). sum_to (occurring codes tuples k) width in
    let from = c.loop-from.from in
    let count = c.min-count.result in
    let within : from + count ≤ length tuples =
    omega (arith, c.min-count.ensures, c.loop-from-test.true, c.tuples-tuples.ensures) in
    let sum : c.loop-from.sum +ℤ c.sum_of_tuples.result ≡ sum_to f (from + count) =
    ap (λ (z : ℤ). z +ℤ c.sum_of_tuples.result) c.loop-from.invariant.sum
    ∙ ap (λ (z : ℤ). sum_to f from +ℤ z) c.sum_of_tuples.ensures.sum ∙ sym (sum_to-split f from count) in
    subst (FitsSigned w128) (sym sum)
    (fits_by_size _ (omega (arith, total_size _ _ _ _ laws c.requires.bits (from + count) within)))

pub loop-from-preserved : goal.loop-from-preserved
loop-from-preserved g c =
    let codes = g.G.Group.codes c.args.g.now in
    let tuples = g.G.Group.dictionary c.args.g.now in
    let width = g.G.Group.columns c.args.g.now in
    let f = λ (k : ℕ). sum_to (occurring codes tuples k) width in
    let from = c.loop-from.from in
    let count = c.min-count.result in
    record {
      sum = c.plus-sum.ensures ∙ ap (λ (z : ℤ). z +ℤ c.sum_of_tuples.result) c.loop-from.invariant.sum
          ∙ ap (λ (z : ℤ). sum_to f from +ℤ z) c.sum_of_tuples.ensures.sum ∙ sym (sum_to-split f from count);
      counts = raised_more from count width _ _ _ c.loop-from.invariant.counts c.sum_of_tuples.ensures.counts;
      within = omega (arith, c.min-count.ensures, c.loop-from-test.true);
    }

pub returns-clause-sum : goal.returns-clause-sum
returns-clause-sum g c =
    let laws = g.met.G.Group.laws c.args.g.now in
    let codes = g.G.Group.codes c.args.g.now in
    let tuples = g.G.Group.dictionary c.args.g.now in
    let width = g.G.Group.columns c.args.g.now in
    let all : c.loop-from.from ≡ length tuples =
    omega (arith, c.loop-from-test.false, c.tuples-tuples.ensures, c.loop-from.invariant.within) in
    c.loop-from.invariant.sum ∙ ap (sum_to (λ (k : ℕ). sum_to (occurring codes tuples k) width)) all
    ∙ sym (sum_by_tuples _ _ _ _ laws)

pub returns-clause-counts : goal.returns-clause-counts
returns-clause-counts g c =
    let all : c.loop-from.from ≡ length (g.G.Group.dictionary c.args.g.now) =
    omega (arith, c.loop-from-test.false, c.tuples-tuples.ensures, c.loop-from.invariant.within) in
    rw (sym all) c.loop-from.invariant.counts
