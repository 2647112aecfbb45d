-- Layouts of matrices: groups of columns that together hold a matrix (PVLDB 9(12), section 3).
use Rattle.std.specs.Prelude.{◌≡◌, ℕ, ℤ, pos, ◌*◌, ◌<◌, ◌≤◌, List, [], ◌∷◌, ◌++◌, length, Bool, ◌==◌, nat_lt}
use Rattle.std.specs.Prelude.{if◌then◌else◌, slice_index_or}
use Rattle.std.specs.List.{range_with_len, count_by, position_or_len}
use Rattle.cla_spec.specs.Matrix.{Matrix, entry, row_by_row, most_cells}
use Rattle.cla_layout.specs.Tuples.{tuples_of}
use Rattle.cla_layout.specs.Groups.{cell_of, IsGroup}

-- a group, and the matrix's column that stands in each place of its tuples
pub record LayoutPart : Type 0 where
  pub columns : List ℕ
  pub codes : List ℕ
  pub tuples : List (List ℤ)

pub record Layout : Type 0 where
  pub rows : ℕ
  pub cols : ℕ
  pub parts : List LayoutPart

-- the layout of so many rows and columns with these parts
abbrev pub layout_with : ℕ → ℕ → List LayoutPart → Layout
layout_with rows cols parts = record { rows = rows; cols = cols; parts = parts }

abbrev pub no_part : LayoutPart
no_part = record { columns = []; codes = []; tuples = [] }

abbrev pub part_at : List LayoutPart → ℕ → LayoutPart
part_at parts q = slice_index_or parts q no_part

-- the column of the matrix that stands in place c of a list of columns
abbrev pub column_at : List ℕ → ℕ → ℕ
column_at columns c = slice_index_or columns c 0

-- where column j stands in a list of columns; the list's length where it isn't there
abbrev pub index_of : List ℕ → ℕ → ℕ
index_of columns j = position_or_len (λ column. column == j) columns

-- how often a list of columns has column j
abbrev pub count_of : List ℕ → ℕ → ℕ
count_of columns j = count_by (λ column. column == j) columns

-- the columns of all parts, one part after the other
abbrev pub all_columns : List LayoutPart → List ℕ
all_columns [] = []
all_columns (part ∷ parts) = part.columns ++ all_columns parts

-- each of the first `cols` columns is listed once, and no other is
pub record IsPartition (cols : ℕ) (columns : List ℕ) : Type 0 where
  pub once : (j : ℕ) → j < cols → count_of columns j ≡ 1
  pub no_other : (j : ℕ) → cols ≤ j → count_of columns j ≡ 0

-- a layout stands for the matrix of its shape whose entry in each column is that of the part that has the column
pub record StandsFor (layout : Layout) (m : Matrix) : Type 0 where
  pub rows : m.rows ≡ layout.rows
  pub cols : m.cols ≡ layout.cols
  pub partition : IsPartition layout.cols (all_columns layout.parts)
  pub entries : (q i c : ℕ) → q < length layout.parts → i < layout.rows
      → c < length (part_at layout.parts q).columns →
      entry m i (column_at (part_at layout.parts q).columns c)
      ≡ cell_of (part_at layout.parts q).codes (part_at layout.parts q).tuples i c

-- a part of a layout with so many rows: its columns rise, and its group has a value for each of them
pub record IsPart (bits rows : ℕ) (part : LayoutPart) : Type 0 where
  pub rising : (c d : ℕ) → c < d → d < length part.columns → column_at part.columns c < column_at part.columns d
  pub a_code_each : length part.codes ≡ rows
  pub group : IsGroup bits (length part.columns) part.codes part.tuples

-- a whole layout: it stands for one matrix, which is well made
pub record IsWhole (bits : ℕ) (layout : Layout) : Type 0 where
  pub a_row : 1 ≤ layout.rows
  pub a_col : 1 ≤ layout.cols
  pub few : layout.rows * layout.cols ≤ most_cells
  pub partition : IsPartition layout.cols (all_columns layout.parts)
  pub each : (q : ℕ) → q < length layout.parts → IsPart bits layout.rows (part_at layout.parts q)

-- whether a part has a column
abbrev pub has_column : LayoutPart → ℕ → Bool
has_column part j = nat_lt (index_of part.columns j) (length part.columns)

-- the value of a part that has column j, in row i and this column
abbrev pub value_in : LayoutPart → ℕ → ℕ → ℤ
value_in part i j = cell_of part.codes part.tuples i (index_of part.columns j)

-- the entry in row i and column j: the value in the part that has the column
abbrev pub entry_in : List LayoutPart → ℕ → ℕ → ℤ
entry_in [] i j = pos 0
entry_in (part ∷ parts) i j = if has_column part j then value_in part i j else entry_in parts i j

-- the matrix that a whole layout stands for
abbrev pub matrix_in : Layout → Matrix
matrix_in layout = record {
  rows = layout.rows;
  cols = layout.cols;
  cells =
      row_by_row layout.rows layout.cols (entry_in layout.parts);
}

abbrev pub transposed : Matrix → Matrix
transposed m = record { rows = m.cols; cols = m.rows; cells = row_by_row m.cols m.rows (λ i j. entry m j i) }

-- the matrix that a layout stands for, or its transpose
abbrev pub matrix_as : Bool → Layout → Matrix
matrix_as flipped layout = if flipped then transposed (matrix_in layout) else matrix_in layout

-- its entry in row i and column j
abbrev pub entry_as : Bool → Layout → ℕ → ℕ → ℤ
entry_as flipped layout i j = if flipped then entry_in layout.parts j i else entry_in layout.parts i j

-- the parts are those of a whole layout that has row i and column j
abbrev pub HasCell : ℕ → List LayoutPart → ℕ → ℕ → Type 0
HasCell bits parts i j = (rows cols : ℕ) × IsWhole bits (layout_with rows cols parts) × (i < rows) × (j < cols)

-- a matrix as one group of all columns, in their order, with a code of its own for each row
abbrev pub loose_layout : Matrix → Layout
loose_layout m = record {
  rows = m.rows;
  cols = m.cols;
  parts = record {
    columns = range_with_len 0 m.cols;
    codes = range_with_len 0 m.rows;
    tuples =
        tuples_of m.cols m.rows m.cells;
  } ∷ [];
}
