-- Matrices that are kept line by line: lines are rows or columns.
use Rattle.std.specs.Prelude.{◌≡◌, ℕ, ℤ, ◌+◌, ◌*◌, ◌<◌, ◌/◌, ◌%◌, ◌≤◌, ◌*ℤ◌, ◌==◌, List, map, Bool, min, max}
use Rattle.std.specs.Prelude.{if◌then◌else◌}
use Rattle.cla_spec.specs.Numbers.{sum_to}
use Rattle.cla_spec.specs.Matrix.{Matrix, entry, most_cells}
use Rattle.cla_layout.specs.Groups.{at}
use Rattle.cla_layout.specs.Layouts.{Layout, LayoutPart, IsWhole, layout_with, entry_in}
use Rattle.cla_prod.specs.declared.lines.Lines.{Lines}
use Rattle.cla_prod.specs.declared.numbers.Order.{Order}
use Rattle.cla_prod.specs.declared.numbers.Order.TheVariants.{Rows, Columns, Mirrored}

-- where the cell in row i and column j of a matrix of so many rows and columns stands
abbrev pub place_in : Order → ℕ → ℕ → ℕ → ℕ → ℕ
place_in Rows rows cols i j = i * cols + j
place_in Columns rows cols i j = j * rows + i
place_in Mirrored rows cols i j = min i j * cols + max i j

-- the cell in row i and column j
abbrev pub cell_at : Order → ℕ → ℕ → List ℤ → ℕ → ℕ → ℤ
cell_at order rows cols cells i j = at cells (place_in order rows cols i j)

-- the base of a table that is multiplied with vectors of `inner` items to vectors of `outer` items: turned, it has the
-- items of the first as its rows
abbrev pub base_for : Bool → ℕ → ℕ → List LayoutPart → Layout
base_for turned outer inner parts = if turned then layout_with inner outer parts else layout_with outer inner parts

-- the entry in row i and column k of a base, or of its transpose
abbrev pub entry_turned : Bool → List LayoutPart → ℕ → ℕ → ℤ
entry_turned turned parts i k = if turned then entry_in parts k i else entry_in parts i k

-- item i of the product of a base, or of its transpose, and a vector of `inner` items
abbrev pub item_times : Bool → List LayoutPart → (ℕ → ℤ) → ℕ → ℕ → ℤ
item_times turned parts item inner i = sum_to (λ k. entry_turned turned parts i k *ℤ item k) inner

-- how many lines a matrix has, which are its rows or its columns, and how many items each of them
abbrev pub lines_in : Order → Matrix → ℕ
lines_in Rows m = m.rows
lines_in Columns m = m.cols
lines_in Mirrored m = m.rows

abbrev pub inner_in : Order → Matrix → ℕ
inner_in Rows m = m.cols
inner_in Columns m = m.rows
inner_in Mirrored m = m.cols

-- item k of line l
abbrev pub line_item : Order → Matrix → ℕ → ℕ → ℤ
line_item Rows m l k = entry m l k
line_item Columns m l k = entry m k l
line_item Mirrored m l k = entry m l k

-- how many items have to be copied of a line: those of a column stand apart, unless there is only one column
abbrev pub copied_in : Order → Matrix → ℕ
copied_in Rows m = 0
copied_in Columns m = if m.cols == 1 then 0 else m.rows
copied_in Mirrored m = 0

-- the lines of this matrix, and so many products: the table fits them, and there are few enough
pub record AreLines (bits : ℕ) (parts : List LayoutPart) (lines : Lines) (m : Matrix) (products : ℕ) : Type 0 where
  pub count : lines.count ≡ lines_in lines.order m
  pub inner : lines.inner ≡ inner_in lines.order m
  pub written : products ≡ lines.count * lines.outer
  pub few : lines.count * lines.outer ≤ most_cells
  pub whole : IsWhole bits (base_for lines.turned lines.outer lines.inner parts)

-- item i of the product with line l
abbrev pub line_times : List LayoutPart → Lines → Matrix → ℕ → ℕ → ℤ
line_times parts lines m l i = item_times lines.turned parts (line_item lines.order m l) lines.inner i

-- the rows and columns of the matrix whose lines the products are
abbrev pub rows_in : Order → Lines → ℕ
rows_in Rows lines = lines.count
rows_in Columns lines = lines.outer
rows_in Mirrored lines = lines.count

abbrev pub cols_in : Order → Lines → ℕ
cols_in Rows lines = lines.outer
cols_in Columns lines = lines.count
cols_in Mirrored lines = lines.outer

-- its entries, where f gives those of each line
abbrev pub entry_by_lines : Order → (ℕ → ℕ → ℤ) → ℕ → ℕ → ℤ
entry_by_lines Rows f i j = f i j
entry_by_lines Columns f i j = f j i
entry_by_lines Mirrored f i j = f (min i j) (max i j)

-- cells that are mirrored are those of a matrix with as many rows as columns
abbrev pub IsSquare : Order → ℕ → ℕ → Type 0
IsSquare Rows rows cols = Unit {0}
IsSquare Columns rows cols = Unit {0}
IsSquare Mirrored rows cols = rows ≡ cols

-- the first p numbers, row by row, are the exact entries
abbrev pub AreNumbers : {N : Type 0} → (N → ℤ) → ℕ → (ℕ → ℕ → ℤ) → ℕ → List N → Type 0
AreNumbers value cols exact p numbers = (q : ℕ) → q < p → at (map value numbers) q ≡ exact (q / cols) (q % cols)
