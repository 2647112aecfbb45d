-- A matrix as one part.
use Rattle.std.proofs.Common.{◌≡◌, ℕ, ℤ, zero, suc, ◌<◌, ◌≤◌, List, [], ◌++◌, length, map, ap, sym}
use Rattle.std.proofs.Common.{arith, inl, inr}
use Rattle.std.specs.List.{range_with_len}
use Rattle.std.proofs.lemmas.Bool.{cases_lt, lt-ltb}
use Rattle.std.proofs.lemmas.List.{append-nil}
use Rattle.cla_spec.specs.Numbers.{InRange}
use Rattle.cla_spec.specs.Matrix.{Matrix, row_by_row, IsShaped}
use Rattle.cla_layout.specs.Groups.{code_of, occurrences_of}
use Rattle.cla_layout.specs.Tuples.{tuples_of}
use Rattle.cla_layout.proofs.Counting.{rows_count, code_is, occurs_once, first_row_is, plain_group}
use Rattle.cla_layout.proofs.Tuples.{tuple_value}
use Rattle.cla_layout.proofs.Regroup.{first_row_there, code_of_first_row}
use Rattle.cla_layout.specs.Layouts.{IsWhole, IsPart, index_of, part_at, entry_in, matrix_in, loose_layout}
use Rattle.cla_layout.proofs.Matrices.{same_matrix}

-- the first columns rise
pub first_rise : (n c d : ℕ) → c < d → d < length (range_with_len 0 n) → code_of (range_with_len 0 n) c
    < code_of (range_with_len 0 n) d
first_rise n c d before there =
    let d_there : d < n = rw (rows_count n) at there in
    rw (code_is n c (omega (arith, before, d_there)), code_is n d d_there) before

-- a column that isn't among the first ones isn't listed
past_columns : (n j : ℕ) → n ≤ j → occurrences_of (range_with_len 0 n) j ≡ 0
past_columns n j past = elim (cases_lt 0 (occurrences_of (range_with_len 0 n) j)) [
  | inl some ↦
      let there = first_row_there (range_with_len 0 n) j some in
      let is = code_of_first_row (range_with_len 0 n) j some in
      absurd (omega (arith, past, there, is, rows_count n, code_is n _ (rw (rows_count n) at there)))
  | inr none ↦ omega (arith, none)
]

one_part : {N : Type 0} (bits : ℕ) (value : N → ℤ) → ((x : N) → InRange bits (value x)) → (m : Matrix) (cells : List N)
    → map value cells
    ≡ m.cells → IsShaped m.rows m.cols cells
    → (q : ℕ) → q < length (loose_layout m).parts → IsPart bits m.rows (part_at (loose_layout m).parts q)
one_part bits value in_range m cells same shaped zero there = record {
  rising = first_rise m.cols;
  a_code_each = rows_count m.rows;
  group = rw (rows_count m.cols, sym same) (plain_group bits value in_range m.cols m.rows cells shaped);
}
one_part bits value in_range m cells same shaped (suc q) there = absurd (omega (arith, there))

-- a matrix as one part is a whole layout
pub loose_whole : {N : Type 0} (bits : ℕ) (value : N → ℤ) → ((x : N) → InRange bits (value x)) →
    (m : Matrix) (cells : List N)
    → map value cells ≡ m.cells → IsShaped m.rows m.cols cells → IsWhole bits (loose_layout m)
loose_whole bits value in_range m cells same shaped =
    let listed : range_with_len 0 m.cols ++ [] ≡ range_with_len 0 m.cols = append-nil (range_with_len 0 m.cols) in
    record {
      a_row = shaped.a_row;
      a_col = shaped.a_col;
      few = shaped.few;
      partition =
          rw listed (record {
            once = λ j there. occurs_once m.cols j there;
            no_other =
                λ j past. past_columns m.cols j past;
          });
      each = one_part bits value in_range m cells same shaped;
    }

-- the only part has each column in its place, so the layout stands for the matrix
pub loose_stands : (m : Matrix) → IsShaped m.rows m.cols m.cells → matrix_in (loose_layout m) ≡ m
loose_stands m shaped =
    let columns = range_with_len 0 m.cols in
    let tuples = tuples_of m.cols m.rows m.cells in
    let cells : m.cells ≡ row_by_row m.rows m.cols (entry_in (loose_layout m).parts) =
    same_matrix m (entry_in (loose_layout m).parts) shaped (λ i j row col.
    (let index : index_of columns j ≡ j = first_row_is m.cols j col in
    let there : index_of columns j < length columns = omega (arith, index, col, rows_count m.cols) in
    sym (rw (lt-ltb (index_of columns j) (length columns) there, index, code_is m.rows i row)
    (tuple_value m.cols m.rows m.cells i j row col)))) in
    ap (λ (cs : List ℤ). record { rows = m.rows; cols = m.cols; cells = cs }) (sym cells)
