-- Matrices of integers.
use Rattle.std.specs.Prelude.{◌≡◌, ℕ, ℤ, pos, ◌+◌, ◌*◌, ◌/◌, ◌%◌, ◌^◌, ◌≤◌, ◌*ℤ◌, List, length, map, All, Bool, ◌&&◌}
use Rattle.std.specs.Prelude.{◌==◌, nat_le, slice_index_or}
use Rattle.std.specs.List.{list_all, range_with_len}
use Rattle.cla_spec.specs.Numbers.{InRange, in_range, sum_to}

-- a matrix: its cells stand row by row
pub record Matrix : Type 0 where
  pub rows : ℕ
  pub cols : ℕ
  pub cells : List ℤ

-- the entry in row i and column j, both from 0
abbrev pub entry : Matrix → ℕ → ℕ → ℤ
entry m i j = slice_index_or m.cells (i * m.cols + j) (pos 0)

-- the greatest number of cells
abbrev pub most_cells : ℕ
most_cells = 2 ^ 26

-- cells of this shape, a row and a column at least
pub record IsShaped {X : Type 0} (rows cols : ℕ) (cells : List X) : Type 0 where
  pub a_row : 1 ≤ rows
  pub a_col : 1 ≤ cols
  pub count : length cells ≡ rows * cols
  pub few : rows * cols ≤ most_cells

-- a matrix with a row, a column, few enough cells, and every entry in range
pub record IsWellMade (bits : ℕ) (m : Matrix) : Type 0 where
  pub shape : IsShaped m.rows m.cols m.cells
  pub in_range : All (InRange bits) m.cells

abbrev pub is_well_made : ℕ → Matrix → Bool
is_well_made bits m = nat_le 1 m.rows && nat_le 1 m.cols && length m.cells == m.rows * m.cols && nat_le
    (m.rows * m.cols) most_cells && list_all (in_range bits) m.cells

-- cells of this shape, row by row
abbrev pub row_by_row : {X : Type 0} → ℕ → ℕ → (ℕ → ℕ → X) → List X
row_by_row rows cols cell = map (λ p. cell (p / cols) (p % cols)) (range_with_len 0 (rows * cols))

-- the exact sum over the rows of the sums over their columns
abbrev pub sum_of_entries : ℕ → ℕ → (ℕ → ℕ → ℤ) → ℤ
sum_of_entries rows cols entry = sum_to (λ i. sum_to (λ j. entry i j) cols) rows

-- the exact sum of all cells
abbrev pub exact_sum : Matrix → ℤ
exact_sum m = sum_of_entries m.rows m.cols (entry m)

-- every entry times an integer
abbrev pub scaled_entry : (ℕ → ℕ → ℤ) → ℤ → ℕ → ℕ → ℤ
scaled_entry entry k i j = entry i j *ℤ k

abbrev pub scaled : Matrix → ℤ → Matrix
scaled m k = record { rows = m.rows; cols = m.cols; cells = row_by_row m.rows m.cols (scaled_entry (entry m) k) }
