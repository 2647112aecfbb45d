-- Groups of columns (PVLDB 9(12), section 3): a dictionary of row tuples, and for each row the code of its tuple.
use Rattle.std.specs.Prelude.{◌≡◌, ℕ, ℤ, pos, ◌+◌, ◌*◌, ◌<◌, ◌≤◌, List, [], length, ◌==◌, if◌then◌else◌, slice_index_or}
use Rattle.std.specs.List.{count_by, position_or_len}
use Rattle.cla_spec.specs.Numbers.{InRange, sum_to}
use Rattle.cla_spec.specs.Matrix.{Matrix, entry, most_cells}

-- the item in this place; 0 where there is none
abbrev pub at : List ℤ → ℕ → ℤ
at items i = slice_index_or items i (pos 0)

-- the code of a row
abbrev pub code_of : List ℕ → ℕ → ℕ
code_of codes i = slice_index_or codes i 0

-- the value in place c of tuple k
abbrev pub value_of : List (List ℤ) → ℕ → ℕ → ℤ
value_of tuples k c = at (slice_index_or tuples k []) c

-- the entry in row i and column c: the value of the row's tuple
abbrev pub cell_of : List ℕ → List (List ℤ) → ℕ → ℕ → ℤ
cell_of codes tuples i c = value_of tuples (code_of codes i) c

-- how many rows have this code
abbrev pub occurrences_of : List ℕ → ℕ → ℕ
occurrences_of codes k = count_by (λ code. code == k) codes

-- the least row with this code
abbrev pub first_row_of : List ℕ → ℕ → ℕ
first_row_of codes k = position_or_len (λ code. code == k) codes

-- the items of the first n rows that have this code, added up
abbrev pub gathered_to : List ℕ → List ℤ → ℕ → ℕ → ℤ
gathered_to codes items k n = sum_to (λ i. if code_of codes i == k then at items i else pos 0) n

-- the items of all rows that have this code, added up
abbrev pub gathered : List ℕ → List ℤ → ℕ → ℤ
gathered codes items k = gathered_to codes items k (length codes)

-- each place is the sum of the items of its code, over the rows before row i
abbrev pub AreGathered : List ℕ → List ℤ → ℕ → List ℤ → Type 0
AreGathered codes items i into = (k : ℕ) → k < length into → at into k ≡ gathered_to codes items k i

-- each row's place is joined with the part of the row's tuple: added to it, or the lesser or greater of both
abbrev pub Scattered : (ℤ → ℤ → ℤ) → List ℕ → List ℤ → List ℤ → List ℤ → Type 0
Scattered join codes parts old new = (i : ℕ) → i < length codes →
    at new i ≡ join (at old i) (at parts (code_of codes i))

-- what holds of each group: rows and columns, each code names a tuple, each tuple is the code of some row, and each
-- value is in range
pub record IsGroup (bits width : ℕ) (codes : List ℕ) (tuples : List (List ℤ)) : Type 0 where
  pub a_row : 1 ≤ length codes
  pub a_column : 1 ≤ width
  pub few_cells : length codes * width ≤ most_cells
  pub in_tuples : (i : ℕ) → i < length codes → code_of codes i < length tuples
  pub used : (k : ℕ) → k < length tuples → 0 < occurrences_of codes k
  pub full : (k : ℕ) → k < length tuples → length (slice_index_or tuples k []) ≡ width
  pub small : (k c : ℕ) → k < length tuples → c < width → InRange bits (value_of tuples k c)

-- codes of n tuples are numbered by their first rows
abbrev pub AreNumbered : List ℕ → ℕ → Type 0
AreNumbered codes n = (k : ℕ) → k + 1 < n → first_row_of codes k < first_row_of codes (k + 1)

-- a group of all columns of a matrix, in their order, stands for the matrix
pub record GroupStandsFor (width : ℕ) (codes : List ℕ) (tuples : List (List ℤ)) (m : Matrix) : Type 0 where
  pub rows : length codes ≡ m.rows
  pub cols : width ≡ m.cols
  pub entries : (i c : ℕ) → i < m.rows → c < m.cols → cell_of codes tuples i c ≡ entry m i c
