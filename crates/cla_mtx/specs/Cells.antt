-- The cells of an array file's entries, one after the other.
use Rattle.std.specs.Prelude.{◌≡◌, ℕ, ◌+◌, ◌-◌, ◌<◌, List, ◌++◌, drop, nat_lt, if◌then◌else◌}
use Rattle.std.specs.List.{range_with_len, flat_map}
use Rattle.cla_market.specs.declared.banner.Symmetry.{Symmetry}
use Rattle.cla_market.specs.Entries.{first_row, column_cells, array_cells}
use Rattle.cla_mtx.specs.declared.next_cell.Cell.{Cell}

abbrev pub first_cell : Symmetry → ℕ → Cell
first_cell mirroring col = record { row = first_row mirroring col; col = col }

-- the cell after one
abbrev pub cell_after : Symmetry → ℕ → ℕ → ℕ → Cell
cell_after mirroring rows row col = if nat_lt (row + 1) rows then record { row = row + 1; col = col }
    else first_cell mirroring (col + 1)

-- the cells of so many columns, from a column on
abbrev pub columns_from : Symmetry → ℕ → ℕ → ℕ → List (ℕ × ℕ)
columns_from mirroring rows col count = flat_map (λ c. column_cells (first_row mirroring c) rows c)
    (range_with_len col count)

-- a cell is within the matrix, and with it begin the cells that are left after n entries
pub record IsNextCell (mirroring : Symmetry) (rows cols n : ℕ) (cell : Cell) : Type 0 where
  pub row : cell.row < rows
  pub col : cell.col < cols
  pub left : drop n (array_cells mirroring rows cols) ≡ column_cells cell.row rows cell.col
      ++ columns_from mirroring rows (cell.col + 1) (cols - (cell.col + 1))
