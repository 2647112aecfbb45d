-- Groups whose rows are their tuples: row i has code i.
use Rattle.std.proofs.Common.{◌≡◌, true, false, ℕ, ℤ, zero, suc, ◌+◌, ◌<◌, ◌≤◌, List, length, map, take, eqb, refl}
use Rattle.std.proofs.Common.{ap, sym, ◌∙◌, arith}
use Rattle.std.proofs.Common.{inl, inr}
use Rattle.std.specs.List.{range_with_len, count_by}
use Rattle.std.proofs.lemmas.Bool.{cases_eq, eq-eqb, ne_eqb}
use Rattle.std.proofs.lemmas.List.{take_all}
use Rattle.std.proofs.lemmas.List.FromFn.{length-range_with_len, get_or-range_with_len}
use Rattle.std.proofs.lemmas.List.Sums.{count_by_more_yes, count_by_more_no, position_or_len_is}
use Rattle.cla_spec.specs.Numbers.{InRange}
use Rattle.cla_spec.specs.Matrix.{IsShaped}
use Rattle.cla_layout.specs.Groups.{code_of, occurrences_of, first_row_of, IsGroup}
use Rattle.cla_layout.specs.Tuples.{tuples_of, AreCodes}
use Rattle.cla_layout.proofs.Tuples.{group_with_values}

-- how many rows there are
pub rows_count : (n : ℕ) → length (range_with_len 0 n) ≡ n
rows_count n = length-range_with_len 0 n

-- row i has code i
pub code_is : (n i : ℕ) → i < n → code_of (range_with_len 0 n) i ≡ i
code_is n i there = omega (arith, get_or-range_with_len 0 n i 0 there)

is_code : (n i k : ℕ) → i < n → i ≡ k → eqb (code_of (range_with_len 0 n) i) k ≡ true
is_code n i k there same = eq-eqb (code_of (range_with_len 0 n) i) k (code_is n i there ∙ same)

is_other : (n i k : ℕ) → i < n → (i ≡ k → ⊥) → eqb (code_of (range_with_len 0 n) i) k ≡ false
is_other n i k there other = ne_eqb (code_of (range_with_len 0 n) i) k (λ same. other (sym (code_is n i there) ∙ same))

-- how many of the first i rows have code k
abbrev counted : ℕ → ℕ → ℕ → ℕ
counted n k i = count_by (λ code. eqb code k) (take i (range_with_len 0 n))

counted_before : (n k i : ℕ) → i ≤ n → i ≤ k → counted n k i ≡ 0
counted_before n k zero within before = refl
counted_before n k (suc i) within before =
    let next : suc i ≡ i + 1 = omega arith in
    let there : i < n = omega (arith, within) in
    ap (counted n k) next
    ∙ count_by_more_no (λ code. eqb code k) (range_with_len 0 n) i 0 (rw (rows_count n) there)
    (is_other n i k there (λ same. absurd (omega (arith, same, before))))
    ∙ counted_before n k i (omega (arith, within)) (omega (arith, before))

counted_after : (n k i : ℕ) → i ≤ n → k < i → counted n k i ≡ 1
counted_after n k zero within after = absurd (omega (arith, after))
counted_after n k (suc i) within after =
    let next : suc i ≡ i + 1 = omega arith in
    let there : i < n = omega (arith, within) in
    let row : i < length (range_with_len 0 n) = rw (rows_count n) there in
    ap (counted n k) next ∙ elim (cases_eq i k) [
      | inl same ↦
          count_by_more_yes (λ code. eqb code k) (range_with_len 0 n) i 0 row (is_code n i k there same)
          ∙ omega (arith, counted_before n k i (omega (arith, within)) (omega (arith, same)))
      | inr other ↦
          let past : k < i = omega (arith, after, other) in
          count_by_more_no (λ code. eqb code k) (range_with_len 0 n) i 0 row (is_other n i k there other)
          ∙ counted_after n k i (omega (arith, within)) past
    ]

-- each code is that of one row
pub occurs_once : (n k : ℕ) → k < n → occurrences_of (range_with_len 0 n) k ≡ 1
occurs_once n k there =
    ap (λ (codes : List ℕ). occurrences_of codes k)
    (sym (take_all n (range_with_len 0 n) (omega (arith, rows_count n))))
    ∙ counted_after n k n (omega arith) there

-- the row of code k is row k
pub first_row_is : (n k : ℕ) → k < n → first_row_of (range_with_len 0 n) k ≡ k
first_row_is n k there =
    position_or_len_is (λ code. eqb code k) (range_with_len 0 n) k 0 (omega (arith, rows_count n, there))
    (λ i before. is_other n i k (omega (arith, before, there)) (λ same. absurd (omega (arith, same, before))))
    (λ _. is_code n k k there refl)

-- the codes 0, 1, .. are those of rows whose values stand row by row
pub counting_codes : {X : Type 0} (width rows : ℕ) (values : List X) → IsShaped rows width values
    → AreCodes width rows (range_with_len 0 rows) (length values)
counting_codes width rows values shaped = record {
  a_row = rw (rows_count rows) shaped.a_row;
  a_column = shaped.a_col;
  few_cells = rw (rows_count rows) shaped.few;
  whole = shaped.count;
  in_tuples = λ i row. (let there : i < rows = rw (rows_count rows) at row in rw (code_is rows i there) there);
  used = λ k there. omega (arith, occurs_once rows k there);
}

-- the law of a group whose row i has code i
pub plain_group : {N : Type 0} (bits : ℕ) (value : N → ℤ) → ((x : N) → InRange bits (value x)) →
    (width rows : ℕ) (values : List N)
    → IsShaped rows width values → IsGroup bits width (range_with_len 0 rows) (tuples_of width rows (map value values))
plain_group bits value in_range width rows values shaped =
    group_with_values bits value in_range width rows (range_with_len 0 rows) values
    (counting_codes width rows values shaped)
