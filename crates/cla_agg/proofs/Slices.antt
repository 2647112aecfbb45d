-- Sums over some tuples of a group, and how large they can be.
use Rattle.std.proofs.Common.{◌≡◌, ℕ, ℤ, ◌+◌, ◌*◌, ◌<◌, ◌≤◌, List, length, ap, ◌∙◌, arith}
use Rattle.std.proofs.Math.Nat.{mul-le-mul_right}
use Rattle.std.specs.Int.RustNames.{unsigned_abs}
use Rattle.cla_spec.specs.Numbers.{sum_to}
use Rattle.cla_spec.specs.Matrix.{most_cells}
use Rattle.cla_spec.proofs.Sums.{sum_to-size}
use Rattle.cla_num.specs.Bits.{IsSupported, value_bound}
use Rattle.cla_num.specs.Counts.{Counts}
use Rattle.cla_layout.specs.Groups.{IsGroup}
use Rattle.cla_layout.proofs.Cells.{occurring, occurring_size, values_few}

-- how large the sum of one column can be, over n tuples from this one on
pub slice_size : (bits width : ℕ) (codes : List ℕ) (tuples : List (List ℤ)) → IsGroup bits width codes tuples →
    IsSupported bits → (from c n : ℕ) → c < width → from + n ≤ length tuples
    → unsigned_abs (sum_to (λ l. occurring codes tuples (from + l) c) n) ≤ n * (value_bound * most_cells)
slice_size bits width codes tuples is supported from c n place within =
    sum_to-size (λ l. occurring codes tuples (from + l) c) (value_bound * most_cells) n
    (λ l lt. occurring_size bits width codes tuples is supported (from + l) c (omega (arith, lt, within)) place)

-- and that of the first m columns
pub block_size : (bits width : ℕ) (codes : List ℕ) (tuples : List (List ℤ)) → IsGroup bits width codes tuples →
    IsSupported bits → (from n m : ℕ) → m ≤ width → from + n ≤ length tuples
    → unsigned_abs (sum_to (λ c. sum_to (λ l. occurring codes tuples (from + l) c) n) m)
    ≤ most_cells * (value_bound * most_cells)
block_size bits width codes tuples is supported from n m columns within =
    let sums : unsigned_abs (sum_to (λ c. sum_to (λ l. occurring codes tuples (from + l) c) n) m)
    ≤ m * (n * (value_bound * most_cells)) =
    sum_to-size (λ c. sum_to (λ l. occurring codes tuples (from + l) c) n) (n * (value_bound * most_cells)) m
    (λ c lt. slice_size bits width codes tuples is supported from c n (omega (arith, lt, columns)) within) in
    let rows : n ≤ length tuples = omega (arith, within) in
    let few : m * n ≤ most_cells =
    omega (arith, values_few bits width codes tuples is, mul-le-mul_right width rows, mul-le-mul_right n columns) in
    omega (arith, sums, few)

-- tuple by tuple n values each, for so many tuples and then for some more
pub raised_more : (from count width : ℕ) (first before now : Counts)
    → before ≡ record first { mults = first.mults + from * width }
    → now ≡ record before { mults = before.mults + width * count }
    → now ≡ record first { mults = first.mults + (from + count) * width }
raised_more from count width first before now begun more =
    let next : (first.mults + from * width) + width * count ≡ first.mults + (from + count) * width = omega arith in
    more ∙ ap (λ (cs : Counts). record cs { mults = cs.mults + width * count }) begun
    ∙ ap (λ (n : ℕ). record first { mults = n }) next
