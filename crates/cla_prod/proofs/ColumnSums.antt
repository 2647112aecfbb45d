-- Sums over the tuples of a part, of what was gathered for them.
use Rattle.std.proofs.Common.{◌≡◌, ℕ, ℤ, pos, ◌+◌, ◌-◌, ◌*◌, ◌<◌, ◌≤◌, ◌+ℤ◌, ◌*ℤ◌, List, length, map, Bool, true, false}
use Rattle.std.proofs.Common.{cond, ltb, refl, ap, sym, ◌∙◌, arith}
use Rattle.std.proofs.Math.IntN.{zero-*ℤ, *ℤ_comm}
use Rattle.std.proofs.lemmas.Bool.{lt-ltb, le-ltb}
use Rattle.std.specs.Int.RustNames.{unsigned_abs}
use Rattle.cla_spec.specs.Numbers.{InRange, sum_to}
use Rattle.cla_spec.specs.Matrix.{most_cells}
use Rattle.cla_spec.proofs.Sums.{sum_to-split, sum_to-same, sum_to-zero, sum_to-size, plus_zero}
use Rattle.cla_num.specs.Bits.{IsSupported, value_bound}
use Rattle.cla_num.proofs.Sizes.{value_size, product_size, fits_by_size}
use Rattle.cla_group.proofs.Gathered.{gathered_size}
use Rattle.cla_layout.specs.Groups.{at, code_of, value_of, cell_of, gathered, gathered_to, IsGroup}
use Rattle.cla_layout.proofs.Bounds.{rows_few}
use Rattle.cla_layout.proofs.Regroup.{regroup_weighted}
use Rattle.cla_layout.proofs.Tuples.{item_holds}
use Rattle.cla_prod.specs.Sums.{column_times, FitsColumns}

-- a sum of which only the first t summands count
sum_before : (f : ℕ → ℤ) (t m : ℕ) → t ≤ m → sum_to (λ k. cond (ltb k t) (f k) (pos 0)) m ≡ sum_to f t
sum_before f t m within =
    let whole : t + (m - t) ≡ m = omega (arith, within) in
    let h = λ (k : ℕ). cond (ltb k t) (f k) (pos 0) in
    ap (sum_to h) (sym whole) ∙ sum_to-split h t (m - t)
    ∙ ap (λ (z : ℤ). z +ℤ sum_to (λ j. h (t + j)) (m - t)) (sum_to-same h f t (λ k lt. rw (lt-ltb k t lt) refl))
    ∙ ap (λ (z : ℤ). sum_to f t +ℤ z)
    (sum_to-same (λ j. h (t + j)) (λ j. pos 0) (m - t) (λ j lt. rw (le-ltb (t + j) t (omega arith)) refl)
    ∙ sum_to-zero (m - t))
    ∙ sym (plus_zero (sum_to f t))

counted : (b : Bool) (v w u : ℤ) → w ≡ u → cond b (v *ℤ w) (pos 0) ≡ u *ℤ cond b v (pos 0)
counted true v w u same = ap (λ (z : ℤ). v *ℤ z) same ∙ *ℤ_comm v u
counted false v w u same = sym (*ℤ_comm u (pos 0) ∙ zero-*ℤ u)

either : (b : Bool) (z : ℤ) → unsigned_abs z ≤ value_bound → unsigned_abs (cond b z (pos 0)) ≤ value_bound
either true z small = small
either false z small = omega arith

-- each item is the sum of what its code gathers
abbrev pub AreAll : List ℕ → List ℤ → ℕ → List ℤ → Type 0
AreAll codes xs n into = (k : ℕ) → k < n → at into k ≡ gathered codes xs k

-- the sum over the first t tuples is one over the rows
by_rows : (codes : List ℕ) (tuples : List (List ℤ)) (xs into : List ℤ) (c t : ℕ)
    → ((i : ℕ) → i < length codes → code_of codes i < length tuples)
    → AreAll codes xs (length tuples) into → t ≤ length tuples
    → column_times tuples into c t
    ≡ sum_to (λ i. at xs i *ℤ cond (ltb (code_of codes i) t) (value_of tuples (code_of codes i) c) (pos 0))
    (length codes)
by_rows codes tuples xs into c t below all within =
    let n = length codes in
    let m = length tuples in
    sym (sum_before (λ k. value_of tuples k c *ℤ at into k) t m within)
    ∙ sum_to-same (λ k. cond (ltb k t) (value_of tuples k c *ℤ at into k) (pos 0))
    (λ k. gathered_to codes xs k n *ℤ cond (ltb k t) (value_of tuples k c) (pos 0)) m
    (λ k lt. counted (ltb k t) (value_of tuples k c) (at into k) (gathered_to codes xs k n) (all k lt))
    ∙ sym (regroup_weighted (λ k. cond (ltb k t) (value_of tuples k c) (pos 0)) codes xs m n below)

-- all tuples give the product of the column and the vector
pub column_is : (codes : List ℕ) (tuples : List (List ℤ)) (xs into : List ℤ) (c : ℕ)
    → ((i : ℕ) → i < length codes → code_of codes i < length tuples)
    → AreAll codes xs (length tuples) into
    → column_times tuples into c (length tuples) ≡ sum_to (λ i. cell_of codes tuples i c *ℤ at xs i) (length codes)
column_is codes tuples xs into c below all =
    by_rows codes tuples xs into c (length tuples) below all (omega arith)
    ∙ sum_to-same
    (λ i. at xs i *ℤ cond (ltb (code_of codes i) (length tuples)) (value_of tuples (code_of codes i) c) (pos 0))
    (λ i. cell_of codes tuples i c *ℤ at xs i) (length codes)
    (λ i lt. rw (lt-ltb (code_of codes i) (length tuples) (below i lt))
    (*ℤ_comm (at xs i) (value_of tuples (code_of codes i) c)))

-- whatever was gathered, the products and their sums fit
pub columns_fit : {N : Type 0} (bits : ℕ) (value : N → ℤ) → ((x : N) → InRange bits (value x)) → IsSupported bits
    → (width : ℕ) (codes : List ℕ) (tuples : List (List ℤ)) (items : List N) (into : List ℤ)
    → IsGroup bits width codes tuples
    → length items ≡ length codes → AreAll codes (map value items) (length tuples) into → FitsColumns tuples into width
columns_fit bits value in_range supported width codes tuples items into is same all =
    let xs = map value items in
    let n = length codes in
    let few : n ≤ most_cells = rows_few bits width codes tuples is in
    record {
      products = λ k c there col.
          (let one = value_size bits (value_of tuples k c) supported (is.small k c there col) in
          let sum : unsigned_abs (at into k) ≤ n * value_bound =
          rw (all k there) (gathered_size bits value in_range supported codes items k n (omega (arith, same))) in
          fits_by_size _ (omega (
            arith,
            product_size (value_of tuples k c) (at into k) value_bound
                (n * value_bound) one sum,
            few,
          )));
      sums = λ c t col within.
          (let h = λ (i : ℕ). at xs i *ℤ cond (ltb (code_of codes i) t) (value_of tuples (code_of codes i) c) (pos 0) in
          let size : unsigned_abs (sum_to h n) ≤ n * (value_bound * value_bound) =
          sum_to-size h (value_bound * value_bound) n
          (λ i lt. product_size (at xs i) (cond (ltb (code_of codes i) t) (value_of tuples (code_of codes i) c)
          (pos 0)) value_bound value_bound
          (item_holds value (λ (z : ℤ). unsigned_abs z ≤ value_bound) (λ x. value_size bits (value x) supported
          (in_range x)) items i
          (omega (arith, lt, same)))
          (either (ltb (code_of codes i) t) (value_of tuples (code_of codes i) c)
          (value_size bits (value_of tuples (code_of codes i) c) supported
          (is.small (code_of codes i) c (is.in_tuples i lt) col)))) in
          rw (by_rows codes tuples xs into c t is.in_tuples all within) (fits_by_size _ (omega (arith, size, few))));
    }
