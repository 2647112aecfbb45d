-- The sums of a table, in either of the two forms in which they are kept.
use Rattle.std.specs.Prelude.{◌≡◌, ℕ, ℤ, pos, [], ◌+◌, ◌*◌, ◌<◌, ◌^◌, List, length, map, ◌==◌, ◌&&◌, if◌then◌else◌}
use Rattle.std.specs.Prelude.{slice_index_or}
use Rattle.cla_spec.specs.Matrix.{Matrix, row_by_row}
use Rattle.cla_table.specs.declared.grid.Grid.{Grid}
use Rattle.cla_table.specs.declared.sums.Sums.{Sums}
use Rattle.cla_table.specs.declared.sums.Sums.TheVariants.{Few, Dense}
use Rattle.cla_table.specs.Kept.{sum_among, AreWithin}
use Rattle.cla_table.specs.Places.{place_of}

-- the sum at a cell, of few sums that are kept by the cells' places row by row
abbrev pub few_sum : {N : Type 0} → (N → ℤ) → Grid → List (ℕ × N) → ℕ → ℕ → ℤ
few_sum value grid entries i j = sum_among value entries (i * grid.cols + j)

-- the sum at a cell, of cells in panels
abbrev pub dense_sum : {N : Type 0} → (N → ℤ) → Grid → List N → ℕ → ℕ → ℤ
dense_sum value grid cells i j = slice_index_or (map value cells) (place_of (2 ^ grid.shift) grid.rows grid.cols i j)
    (pos 0)

-- the sum at a cell
abbrev pub sum_in : {N : Type 0} → (N → ℤ) → Grid → Sums N → ℕ → ℕ → ℤ
sum_in value grid (Few sums) = few_sum value grid sums.entries
sum_in value grid (Dense cells) = dense_sum value grid cells.items

-- the places are those of the shape, and dense cells are as many as it has
abbrev pub IsWhole : {N : Type 0} → Grid → Sums N → Type 0
IsWhole grid (Few sums) = AreWithin (grid.rows * grid.cols) sums.entries
IsWhole grid (Dense cells) = length cells.items ≡ grid.rows * grid.cols

-- the same sums at all cells
abbrev pub AreSame : Grid → (ℕ → ℕ → ℤ) → (ℕ → ℕ → ℤ) → Type 0
AreSame grid f g = (i j : ℕ) → i < grid.rows → j < grid.cols → f i j ≡ g i j

-- f, with this value at one cell
abbrev pub with_cell : (ℕ → ℕ → ℤ) → ℕ → ℕ → ℤ → ℕ → ℕ → ℤ
with_cell f row col v i j = if row == i && col == j then v else f i j

-- the matrix of the sums
abbrev pub table_of : {N : Type 0} → (N → ℤ) → Grid → Sums N → Matrix
table_of value grid sums
    = record { rows = grid.rows; cols = grid.cols; cells = row_by_row grid.rows grid.cols (sum_in value grid sums) }

-- all numbers are 0
abbrev pub AreZero : {N : Type 0} → (N → ℤ) → List N → Type 0
AreZero value numbers = (k : ℕ) → slice_index_or (map value numbers) k (pos 0) ≡ pos 0

-- there are no sums
abbrev pub IsEmpty : {N : Type 0} → Sums N → Type 0
IsEmpty (Few sums) = sums.entries ≡ []
IsEmpty (Dense cells) = ⊥

-- the matrix of the sums of which all cells are kept
abbrev pub dense_table_of : {N : Type 0} → (N → ℤ) → Grid → List N → Matrix
dense_table_of value grid cells
    = record { rows = grid.rows; cols = grid.cols; cells = row_by_row grid.rows grid.cols (dense_sum value grid cells) }
