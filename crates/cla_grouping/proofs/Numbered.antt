-- What holds of tuples that are numbered by first row.
use Rattle.std.proofs.Common.{◌≡◌, ℕ, zero, suc, ◌*◌, ◌<◌, ◌≤◌, Bool, true, false, cond, nat_lt, ltb-true, List, []}
use Rattle.std.proofs.Common.{length, refl, sym, ap, ◌∙◌, subst, arith, Some, None, mul-le-mul_left}
use Rattle.std.specs.List.{position_or_len, range_with_len}
use Rattle.std.proofs.lemmas.List.FromFn.{length-range_with_len}
use Rattle.cla_spec.specs.Matrix.{Matrix, IsShaped, most_cells}
use Rattle.cla_layout.specs.Groups.{code_of}
use Rattle.cla_grouping.specs.Numbering.{codes_by, first_rows_by}
use Rattle.cla_grouping.specs.Tuples.{AreColumns, AreTuples, code_where, tuples_by, tuples_in, same_tuple, is_zero_row}
use Rattle.cla_grouping.proofs.Used.{codes-below, few-firsts}
use Rattle.cla_grouping.proofs.TupleLemmas.{length-codes_by}

code-below : (same : ℕ → ℕ → Bool) (n i : ℕ) → i < n → code_of (codes_by same n) i < length (first_rows_by same n)
code-below same n i row = codes-below same [] (range_with_len 0 n) i (omega (arith, row, length-range_with_len 0 n))

-- the code of a row that passes is one of the codes
code_where-is : (test : ℕ → Bool) (codes : List ℕ) (k : ℕ) → code_where test codes ≡ Some k
    → (i : ℕ) × (i < length codes) × (code_of codes i ≡ k)
code_where-is test codes k e = by (nat_lt (position_or_len test (range_with_len 0 (length codes))) (length codes)) refl
  where
    first : ℕ
    first = position_or_len test (range_with_len 0 (length codes))

    by : (b : Bool) → nat_lt first (length codes) ≡ b → (i : ℕ) × (i < length codes) × (code_of codes i ≡ k)
    by true h =
        let found : Some (code_of codes first) ≡ Some k =
        ap (λ (t : Bool). cond t (Some (code_of codes first)) None) (sym h) ∙ e in
        let same : code_of codes first ≡ k = cc in
        (first, ltb-true first (length codes) h, same)
    by false h =
        let none : None ≡ Some k = ap (λ (t : Bool). cond t (Some (code_of codes first)) None) (sym h) ∙ e in
        absurd (cc)

pub tuples_by-are : (width n : ℕ) (same : ℕ → ℕ → Bool) (is_zero : ℕ → Bool) → 1 ≤ n → 1 ≤ width
    → n * width ≤ most_cells → AreTuples (tuples_by width same is_zero n)
tuples_by-are width n same is_zero a_row a_column few_cells =
    let count = length-codes_by same n in
    record {
      a_row = omega (arith, a_row, count);
      a_column = a_column;
      few_cells = subst (λ r. r * width ≤ most_cells) (sym count) few_cells;
      below = λ i row. code-below same n i (omega (arith, row, count));
      few = omega (arith, few-firsts same [] (range_with_len 0 n), count, length-range_with_len 0 n);
      zero_below =
          λ k e. (let at = code_where-is is_zero (codes_by same n) k e in
          omega (arith, code-below same n at.0 (omega (arith, at.1, count)), at.2));
    }

-- the first columns of a list of columns are no more than their numbers
at_least : (cols : ℕ) (columns : List ℕ) → AreColumns cols columns → (c : ℕ) → c < length columns
    → c ≤ code_of columns c
at_least cols columns are zero there = omega arith
at_least cols columns are (suc c) there =
    omega (arith, at_least cols columns are c (omega (arith, there)), are.rising c (suc c) (omega arith) there)

pub few-columns : (cols : ℕ) (columns : List ℕ) → AreColumns cols columns → length columns ≤ cols
few-columns cols columns are = by (length columns) refl
  where
    by : (n : ℕ) → length columns ≡ n → length columns ≤ cols
    by zero e = omega (arith, e)
    by (suc n) e = omega (arith, e, at_least cols columns are n (omega (arith, e)), are.within n (omega (arith, e)))

pub few_cells-in : (m : Matrix) (n : ℕ) → IsShaped m.rows m.cols m.cells → n ≤ m.cols → m.rows * n ≤ most_cells
few_cells-in m n shape few = omega (arith, shape.few, mul-le-mul_left m.rows few)

pub tuples_in-are : (m : Matrix) (columns : List ℕ) → IsShaped m.rows m.cols m.cells → 1 ≤ length columns
    → length columns ≤ m.cols → AreTuples (tuples_in m columns)
tuples_in-are m columns shape some few =
    tuples_by-are (length columns) m.rows (same_tuple m columns) (is_zero_row m columns) shape.a_row some
    (few_cells-in m (length columns) shape few)
