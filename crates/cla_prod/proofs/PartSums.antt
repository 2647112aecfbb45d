-- Sums over parts, and how large they can be.
use Rattle.std.proofs.Common.{◌≡◌, ℕ, ℤ, zero, suc, ◌+◌, ◌*◌, ◌^◌, ◌<◌, ◌≤◌, ◌+ℤ◌, ◌*ℤ◌, List, [], ◌∷◌, length, map}
use Rattle.std.proofs.Common.{take, sum_by, refl, ap, ◌∙◌, arith, length-append}
use Rattle.std.proofs.Math.Nat.{mul-le-mul_right}
use Rattle.std.proofs.lemmas.List.Sums.{sum_by-cons}
use Rattle.std.specs.Int.RustNames.{unsigned_abs}
use Rattle.cla_spec.specs.Numbers.{InRange}
use Rattle.cla_spec.specs.Matrix.{most_cells}
use Rattle.cla_spec.proofs.Sums.{sum_to-size}
use Rattle.cla_num.specs.Bits.{IsSupported, value_bound}
use Rattle.cla_num.proofs.Sizes.{value_size, product_size, plus_size}
use Rattle.cla_layout.specs.Groups.{at, code_of, value_of}
use Rattle.cla_layout.specs.Layouts.{LayoutPart, part_at, all_columns, layout_with, IsPart, IsWhole}
use Rattle.cla_layout.specs.Laws.{sum_over}
use Rattle.cla_layout.proofs.Tuples.{item_holds}
use Rattle.cla_layout.proofs.Wholes.{own_column, own_column_within}
use Rattle.cla_layout.proofs.PartValues.{columns_count}
use Rattle.cla_prod.specs.Sums.{tuple_times, part_times}

abbrev pub width_of : LayoutPart → ℕ
width_of part = length part.columns

-- how large the sum over the first q parts can be
pub sum_over-size : (f : LayoutPart → ℤ) (b : ℕ) (parts : List LayoutPart) (q : ℕ) →
    ((p : ℕ) → p < length parts → unsigned_abs (f (part_at parts p)) ≤ width_of (part_at parts p) * b)
    → unsigned_abs (sum_over f (take q parts)) ≤ sum_by width_of parts * b
sum_over-size f b [] zero small = omega arith
sum_over-size f b [] (suc q) small = omega arith
sum_over-size f b (part ∷ parts) zero small = omega arith
sum_over-size f b (part ∷ parts) (suc q) small =
    let more : unsigned_abs (sum_over f (take (suc q) (part ∷ parts))) ≡ unsigned_abs
    (f part +ℤ sum_over f (take q parts)) = refl in
    let wider : sum_by width_of (part ∷ parts) * b ≡ (length part.columns + sum_by width_of parts) * b = ap
    (λ (n : ℕ). n * b) (sum_by-cons width_of part parts) in
    let here : unsigned_abs (f part) ≤ length part.columns * b = small zero (omega arith) in
    omega (
      arith,
      more,
      wider,
      here,
      plus_size (f part) (sum_over f (take q parts)),
      sum_over-size f b parts q
          (λ p lt. small (suc p) (omega (arith, lt))),
    )

widths : (parts : List LayoutPart) → sum_by width_of parts ≡ length (all_columns parts)
widths [] = refl
widths (part ∷ parts) = omega (
  arith,
  sum_by-cons width_of part parts,
  widths parts,
  length-append part.columns
      (all_columns parts),
)

-- a tuple times the items of its columns
pub tuple_times-size : {N : Type 0} (bits : ℕ) (value : N → ℤ) → ((x : N) → InRange bits (value x))
    → IsSupported bits → (rows : ℕ) (part : LayoutPart) → IsPart bits rows part → (items : List N)
    → ((c : ℕ) → c < length part.columns → code_of part.columns c < length items) → (k n : ℕ)
    → k < length part.tuples → n ≤ length part.columns → unsigned_abs (tuple_times part.tuples part.columns
    (map value items) k n) ≤ n * (value_bound * value_bound)
tuple_times-size bits value in_range supported rows part is items within k n there wide =
    sum_to-size (λ c. value_of part.tuples k c *ℤ at (map value items) (code_of part.columns c))
    (value_bound * value_bound) n
    (λ c lt. (let col : c < length part.columns = omega (arith, lt, wide) in
    product_size (value_of part.tuples k c) (at (map value items) (code_of part.columns c)) value_bound value_bound
    (value_size bits (value_of part.tuples k c) supported (is.group.small k c there col))
    (item_holds value (λ (z : ℤ). unsigned_abs z ≤ value_bound) (λ x. value_size bits (value x) supported
    (in_range x)) items (code_of part.columns c) (within c col))))

-- how large an item of the product can be, after q parts
pub row_size : {N : Type 0} (bits : ℕ) (value : N → ℤ) → ((x : N) → InRange bits (value x)) → IsSupported bits →
    (rows : ℕ) (parts : List LayoutPart) (items : List N) → IsWhole bits (layout_with rows (length items) parts)
    → (i q : ℕ) → i < rows → unsigned_abs (sum_over (part_times (map value items) i) (take q parts)) < 2 ^ 127
row_size bits value in_range supported rows parts items whole i q row =
    let cols = length items in
    let small = sum_over-size (part_times (map value items) i) (value_bound * value_bound) parts q (λ p lt.
    (let part = part_at parts p in
    let is = whole.each p lt in
    tuple_times-size bits value in_range supported rows part is items (λ c place.
    (let own = own_column part c is.rising place in own_column_within cols parts p
    (code_of part.columns c) whole.partition lt own.1)) (code_of part.codes i) (length part.columns)
    (is.group.in_tuples i (rw is.a_code_each row)) (omega arith))) in
    let wide : sum_by width_of parts ≡ cols = widths parts ∙ columns_count cols (all_columns parts) whole.partition in
    let few : cols ≤ most_cells = omega (arith, whole.few, whole.a_row, mul-le-mul_right cols whole.a_row) in
    omega (arith, small, wide, few)
