use Rattle.std.proofs.Common.{◌≡◌, ◌<◌, ◌≤◌, ◌+◌, ◌-◌, ◌*◌, ◌+ℤ◌, ◌*ℤ◌, ℕ, ℤ, pos, suc, length, ap, subst, sym, ◌∙◌}
use Rattle.std.proofs.Common.{arith}
use Rattle.std.proofs.Math.Nat.{mul-le-mul}
use Rattle.std.specs.Int.{w128}
use Rattle.std.specs.Int.RustNames.{FitsSigned}
use Rattle.std.proofs.lemmas.List.{get_or_default}
use Rattle.cla_layout.specs.Groups.{at, value_of}
use Rattle.cla_layout.specs.Layouts.{column_at}
use Rattle.cla_layout.proofs.Cells.{values_few}
use Rattle.cla_prod.specs.Sums.{column_times}
use Rattle.cla_prod.proofs.ColumnsSet.{set_again}
use Rattle.cla_prod.proofs.gathers.add_tuples.Goals as goal

pub add_tuple-requires-clause-sums : goal.add_tuple-requires-clause-sums
add_tuple-requires-clause-sums g c d past there =
    let columns = c.args.part.now.columns.items in
    let tuples = g.G.Group.dictionary c.args.part.now.group in
    let gathered = c.args.gathered.now in
    let k = c.loop-k.k in
    let tuple : k < length tuples = omega (arith, c.loop-k-test.true, c.tuples-k-end.ensures) in
    let w : c.index-gathered-k.result ≡ at gathered k =
    c.index-gathered-k.is ∙ get_or_default gathered k c.index-gathered-k.result (pos 0)
    (omega (arith, tuple, c.requires.gathered)) in
    let sum : at c.loop-k.sums (column_at columns d) +ℤ value_of tuples k d *ℤ c.index-gathered-k.result
    ≡ column_times tuples gathered d (suc k) =
    ap (λ (z : ℤ). z +ℤ value_of tuples k d *ℤ c.index-gathered-k.result) (c.loop-k.invariant.sums.here d past there)
    ∙ ap (λ (z : ℤ). column_times tuples gathered d k +ℤ value_of tuples k d *ℤ z) w in
    subst (FitsSigned w128) (sym sum) (c.requires.fits.sums d (suc k) there (omega (arith, tuple)))

pub add_tuple-requires-clause-products : goal.add_tuple-requires-clause-products
add_tuple-requires-clause-products g c d there =
    let tuples = g.G.Group.dictionary c.args.part.now.group in
    let gathered = c.args.gathered.now in
    let k = c.loop-k.k in
    let tuple : k < length tuples = omega (arith, c.loop-k-test.true, c.tuples-k-end.ensures) in
    let w : c.index-gathered-k.result ≡ at gathered k =
    c.index-gathered-k.is ∙ get_or_default gathered k c.index-gathered-k.result (pos 0)
    (omega (arith, tuple, c.requires.gathered)) in
    subst (λ (z : ℤ). FitsSigned w128 (value_of tuples k d *ℤ z)) (sym w) (c.requires.fits.products k d tuple there)

pub add_tuple-requires-clause-room : goal.add_tuple-requires-clause-room
add_tuple-requires-clause-room g c =
    let columns = c.args.part.now.columns.items in
    let tuples = g.G.Group.dictionary c.args.part.now.group in
    let few = values_few _ _ _ _ c.requires.part.group in
    let before : c.loop-k.k ≤ length tuples = omega (arith, c.loop-k-test.true, c.tuples-k-end.ensures) in
    let some : length columns - c.args.first ≤ length columns = omega arith in
    let all = mul-le-mul {n₁ = c.loop-k.k} {m₁ = length columns - c.args.first} {n₂ = length tuples}
    {m₂ = length columns} before some in
    rw c.loop-k.invariant.counts (record {
      mults = omega (arith, c.requires.room.mults, few, all);
      maps = omega
          (arith, c.requires.room.maps);
    })

pub loop-k-preserved : goal.loop-k-preserved
loop-k-preserved g c =
    let columns = c.args.part.now.columns.items in
    let tuples = g.G.Group.dictionary c.args.part.now.group in
    let gathered = c.args.gathered.now in
    let k = c.loop-k.k in
    let first = c.args.first in
    let tuple : k < length tuples = omega (arith, c.loop-k-test.true, c.tuples-k-end.ensures) in
    let w : c.index-gathered-k.result ≡ at gathered k =
    c.index-gathered-k.is ∙ get_or_default gathered k c.index-gathered-k.result (pos 0)
    (omega (arith, tuple, c.requires.gathered)) in
    let next : suc k ≡ k + 1 = omega arith in
    let more : c.args.meter.now.mults + k * (length columns - first) + (length columns - first)
    ≡ c.args.meter.now.mults + (k + 1) * (length columns - first) =
    omega arith in
    record {
      sums = set_again first (length columns) columns (λ d. column_times tuples gathered d k)
          (λ d. at c.loop-k.sums (column_at columns d) +ℤ value_of tuples k d *ℤ c.index-gathered-k.result)
          (λ d. column_times tuples gathered d (k + 1)) c.args.sums.now c.loop-k.sums c.add_tuple.new.sums
          c.loop-k.invariant.sums c.add_tuple.ensures.sums
          (λ d past there.
          ap (λ (z : ℤ). z +ℤ value_of tuples k d *ℤ c.index-gathered-k.result)
          (c.loop-k.invariant.sums.here d past there)
          ∙ ap (λ (z : ℤ). column_times tuples gathered d k +ℤ value_of tuples k d *ℤ z) w
          ∙ ap (column_times tuples gathered d) next);
      counts = rw (c.add_tuple.ensures.counts, c.loop-k.invariant.counts)
          (ap (λ (n : ℕ). record c.args.meter.now { mults = n }) more);
    }
