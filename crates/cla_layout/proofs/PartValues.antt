-- How many values the parts of a layout have.
use Rattle.std.proofs.Common.{◌≡◌, ℕ, ℤ, pos, zero, suc, ◌+◌, ◌*◌, ◌<◌, ◌≤◌, ◌+ℤ◌, ◌*ℤ◌, List, [], ◌∷◌, length, take}
use Rattle.std.proofs.Common.{sum_by, cond, eqb}
use Rattle.std.proofs.Common.{Bool, true, false, refl, ap, sym, ◌∙◌, arith, inl, inr, length-append}
use Rattle.std.proofs.Math.IntN.{one, *ℤ-one}
use Rattle.std.proofs.Math.Nat.{mul-le-mul_right}
use Rattle.std.proofs.lemmas.Bool.{cases_Bool, eqb-true, eq-eqb}
use Rattle.std.proofs.lemmas.Int.{ints}
use Rattle.std.proofs.lemmas.List.Sums.{sum_by-cons}
use Rattle.cla_spec.specs.Numbers.{sum_to}
use Rattle.cla_spec.proofs.Sums.{sum_to-same, sum_to-pick}
use Rattle.cla_layout.specs.Groups.{code_of, occurrences_of, first_row_of}
use Rattle.cla_layout.specs.GroupLaws.{AreCodesOf}
use Rattle.cla_layout.specs.Listed.{rows_where}
use Rattle.cla_layout.proofs.Cells.{tuples_few}
use Rattle.cla_layout.proofs.Listings.{sum_where}
use Rattle.cla_layout.proofs.Regroup.{regroup, regroup_any, first_row_there, code_of_first_row}
use Rattle.cla_layout.specs.Layouts.{LayoutPart, Layout, part_at, all_columns, IsPartition, IsWhole}
use Rattle.cla_layout.specs.Values.{values_of, different_codes}
use Rattle.cla_layout.proofs.PartSums.{listed_within}

ones : (n : ℕ) → sum_to (λ k. pos 1) n ≡ pos n
ones zero = refl
ones (suc n) = ap (λ (z : ℤ). z +ℤ pos 1) (ones n) ∙ omega (arith, ints)

-- as many columns are listed as there are
pub columns_count : (cols : ℕ) (columns : List ℕ) → IsPartition cols columns → length columns ≡ cols
unfolding one
columns_count cols columns partition =
    let same : pos (length columns) ≡ pos cols = sym (ones (length columns))
    ∙ regroup (λ k. pos 1) columns cols (listed_within cols columns partition)
    ∙ sum_to-same (λ k. pos (occurrences_of columns k) *ℤ pos 1) (λ k. pos 1) cols
    (λ k lt. *ℤ-one (pos (occurrences_of columns k)) ∙ ap pos (partition.once k lt)) ∙ ones cols in
    omega (arith, ints, same)

abbrev width_of : LayoutPart → ℕ
width_of part = length part.columns

abbrev values_in : LayoutPart → ℕ
values_in part = length part.tuples * length part.columns

widths : (parts : List LayoutPart) → sum_by width_of parts ≡ length (all_columns parts)
widths [] = refl
widths (part ∷ parts) =
    omega (arith, sum_by-cons width_of part parts, widths parts, length-append part.columns (all_columns parts))

-- one more part
pub values_more : (parts : List LayoutPart) (q : ℕ) → q < length parts → values_of (take (q + 1) parts)
    ≡ values_of (take q parts) + length (part_at parts q).tuples * length (part_at parts q).columns
values_more [] q there = absurd (omega (arith, there))
values_more (part ∷ parts) zero there = omega (arith, sum_by-cons values_in part [])
values_more (part ∷ parts) (suc q) there =
    let next : suc q + 1 ≡ suc (q + 1) = omega arith in
    ap (λ (n : ℕ). values_of (take n (part ∷ parts))) next
    ∙ omega (
      arith,
      sum_by-cons values_in part (take (q + 1) parts),
      sum_by-cons values_in part (take q parts),
      values_more parts q
          (omega (arith, there)),
    )

values_wide : (rows : ℕ) (parts : List LayoutPart) (q : ℕ) →
    ((p : ℕ) → p < length parts → length (part_at parts p).tuples ≤ rows)
    → values_of (take q parts) ≤ rows * sum_by width_of parts
values_wide rows [] zero few = omega arith
values_wide rows [] (suc q) few = omega arith
values_wide rows (part ∷ parts) zero few = omega arith
values_wide rows (part ∷ parts) (suc q) few =
    let more : values_of (take (suc q) (part ∷ parts))
    ≡ values_in part + values_of (take q parts) = sum_by-cons values_in part (take q parts) in
    let wider : rows * sum_by width_of (part ∷ parts)
    ≡ rows * (length part.columns + sum_by width_of parts) =
    ap (λ (n : ℕ). rows * n) (sum_by-cons width_of part parts) in
    omega (
      arith,
      more,
      wider,
      values_wide rows parts q (λ p lt. few (suc p) (omega (arith, lt))),
      mul-le-mul_right (length part.columns)
          (few zero (omega arith)),
    )

-- there are no more of them than cells
pub values_few : (bits : ℕ) (layout : Layout) (q : ℕ) → IsWhole bits layout → values_of (take q layout.parts)
    ≤ layout.rows * layout.cols
values_few bits layout q whole =
    let wide : sum_by width_of layout.parts ≡ layout.cols = widths layout.parts
    ∙ columns_count layout.cols (all_columns layout.parts) whole.partition in
    let all : values_of (take q layout.parts) ≤ layout.rows * sum_by width_of layout.parts =
    values_wide layout.rows layout.parts q (λ p lt.
    (let is = whole.each p lt in omega (arith, tuples_few _ _ _ _ is.group, is.a_code_each))) in
    let same : layout.rows * sum_by width_of layout.parts ≡ layout.rows * layout.cols =
    ap (λ (n : ℕ). layout.rows * n) wide in
    omega (arith, all, same)

either_zero : (b : Bool) → cond b (pos 0) (pos 0) ≡ pos 0
either_zero true = refl
either_zero false = refl

-- a row is the first of its code
abbrev first_with : List ℕ → ℕ → Bool
first_with codes i = eqb (first_row_of codes (code_of codes i)) i

-- of the rows with a code one is the first
one_first : (n : ℕ) (codes : List ℕ) (k i : ℕ) → AreCodesOf n codes → k < n
    → cond (eqb (code_of codes i) k) (cond (eqb (first_row_of codes k) i) (pos 1) (pos 0)) (pos 0)
    ≡ cond (eqb (first_row_of codes k) i) (pos 1) (pos 0)
one_first n codes k i are there = elim (cases_Bool (eqb (first_row_of codes k) i)) [
  | inl here ↦
      let code : code_of codes i ≡ k = ap (code_of codes) (sym (eqb-true _ _ here))
      ∙ code_of_first_row codes k (are.used k there) in
      rw (here, eq-eqb (code_of codes i) k code) refl
  | inr elsewhere ↦ rw elsewhere (either_zero (eqb (code_of codes i) k))
]

-- so there are as many different codes as tuples
pub codes_count_tuples : (n : ℕ) (codes : List ℕ) → AreCodesOf n codes → different_codes codes ≡ n
codes_count_tuples n codes are =
    let rows = rows_where (first_with codes) (length codes) in
    let first = λ (k i : ℕ). cond (eqb (first_row_of codes k) i) (pos 1) (pos 0) in
    let same : pos (length rows) ≡ pos n =
    sym (ones (length rows)) ∙ sum_where (λ i. pos 1) (first_with codes) (length codes)
    ∙ regroup_any (λ i k. first k i) codes n (length codes) are.in_tuples
    ∙ sum_to-same (λ k. sum_to (λ i. cond (eqb (code_of codes i) k) (first k i) (pos 0)) (length codes)) (λ k. pos 1) n
    (λ k lt. sum_to-same (λ i. cond (eqb (code_of codes i) k) (first k i) (pos 0)) (first k) (length codes)
    (λ i row. one_first n codes k i are lt)
    ∙ sum_to-pick (λ i. pos 1) (first_row_of codes k) (length codes) (first_row_there codes k (are.used k lt)))
    ∙ ones n in
    omega (arith, ints, same)
