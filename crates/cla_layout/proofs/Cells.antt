-- Sums over a group's cells, and how large they can be.
use Rattle.std.proofs.Common.{◌≡◌, ℕ, ℤ, pos, ◌*◌, ◌<◌, ◌≤◌, ◌*ℤ◌, List, length, eqb, sym, ◌∙◌, arith}
use Rattle.std.proofs.Math.IntN.{*ℤ_comm}
use Rattle.std.proofs.Math.Nat.{mul-le-mul_right}
use Rattle.std.proofs.lemmas.List.Sums.{count_by-le-length}
use Rattle.std.specs.Int.RustNames.{unsigned_abs}
use Rattle.cla_spec.specs.Numbers.{sum_to}
use Rattle.cla_spec.specs.Matrix.{most_cells, sum_of_entries}
use Rattle.cla_spec.proofs.Sums.{sum_to-same, sum_to-times, sum_to-size}
use Rattle.cla_num.specs.Bits.{IsSupported, value_bound}
use Rattle.cla_num.proofs.Sizes.{value_size, product_size}
use Rattle.cla_layout.specs.Groups.{value_of, cell_of, occurrences_of, IsGroup}
use Rattle.cla_layout.proofs.Bounds.{rows_few}
use Rattle.cla_layout.proofs.Counts.{used_few}
use Rattle.cla_layout.proofs.Regroup.{regroup}

-- a value as often as its tuple occurs
abbrev pub occurring : List ℕ → List (List ℤ) → ℕ → ℕ → ℤ
occurring codes tuples k c = value_of tuples k c *ℤ pos (occurrences_of codes k)

-- the sum of all cells, tuple by tuple
pub sum_by_tuples : (bits width : ℕ) (codes : List ℕ) (tuples : List (List ℤ)) → IsGroup bits width codes tuples
    → sum_of_entries (length codes) width (cell_of codes tuples)
    ≡ sum_to (λ k. sum_to (λ c. occurring codes tuples k c) width)
    (length tuples)
sum_by_tuples bits width codes tuples is =
    regroup (λ k. sum_to (λ c. value_of tuples k c) width) codes (length tuples) is.in_tuples
    ∙ sum_to-same (λ k. pos (occurrences_of codes k) *ℤ sum_to (λ c. value_of tuples k c) width)
    (λ k. sum_to (λ c. occurring codes tuples k c) width) (length tuples)
    (λ k lt. *ℤ_comm (pos (occurrences_of codes k)) (sum_to (λ c. value_of tuples k c) width) ∙ sym
    (sum_to-times (λ c. value_of tuples k c) (pos (occurrences_of codes k)) width))

-- there are no more tuples than rows
pub tuples_few : (bits width : ℕ) (codes : List ℕ) (tuples : List (List ℤ)) → IsGroup bits width codes tuples →
    length tuples ≤ length codes
tuples_few bits width codes tuples is = used_few codes (length tuples) is.used

-- and no more values than cells
pub values_few : (bits width : ℕ) (codes : List ℕ) (tuples : List (List ℤ)) → IsGroup bits width codes tuples
    → length tuples * width ≤ most_cells
values_few bits width codes tuples is =
    omega (arith, is.few_cells, mul-le-mul_right width (tuples_few bits width codes tuples is))

-- how large a value is as often as its tuple occurs
pub occurring_size : (bits width : ℕ) (codes : List ℕ) (tuples : List (List ℤ)) → IsGroup bits width codes tuples →
    IsSupported bits
    → (k c : ℕ) → k < length tuples → c < width → unsigned_abs (occurring codes tuples k c) ≤ value_bound * most_cells
occurring_size bits width codes tuples is supported k c there place =
    let few : occurrences_of codes k ≤ most_cells =
    omega (arith, count_by-le-length (λ code. eqb code k) codes, rows_few bits width codes tuples is) in
    product_size (value_of tuples k c) (pos (occurrences_of codes k)) value_bound most_cells
    (value_size bits (value_of tuples k c) supported (is.small k c there place)) few

-- how large the sum of a tuple's first n values can be, and the sum over the first n tuples
pub tuple_sum_size : (bits width : ℕ) (codes : List ℕ) (tuples : List (List ℤ)) → IsGroup bits width codes tuples →
    IsSupported bits
    → (k n : ℕ) → k < length tuples → n ≤ width → unsigned_abs (sum_to (occurring codes tuples k) n)
    ≤ n * (value_bound * most_cells)
tuple_sum_size bits width codes tuples is supported k n there within =
    sum_to-size (occurring codes tuples k) (value_bound * most_cells) n
    (λ c lt. occurring_size bits width codes tuples is supported k c there (omega (arith, lt, within)))

pub total_size : (bits width : ℕ) (codes : List ℕ) (tuples : List (List ℤ)) → IsGroup bits width codes tuples →
    IsSupported bits
    → (n : ℕ) → n ≤ length tuples → unsigned_abs (sum_to (λ k. sum_to (occurring codes tuples k) width) n)
    ≤ most_cells *
    (value_bound * most_cells)
total_size bits width codes tuples is supported n within =
    let sums : unsigned_abs (sum_to (λ k. sum_to (occurring codes tuples k) width) n)
    ≤ n * (width * (value_bound * most_cells)) =
    sum_to-size (λ k. sum_to (occurring codes tuples k) width) (width * (value_bound * most_cells)) n
    (λ k lt. tuple_sum_size bits width codes tuples is supported k width (omega (arith, lt, within)) (omega arith)) in
    let few : n * width ≤ most_cells =
    omega (arith, values_few bits width codes tuples is, mul-le-mul_right width within) in
    omega (arith, sums, few)
