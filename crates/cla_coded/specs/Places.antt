-- Where the entries of a table's base stand among the table's cells.
use Rattle.std.specs.Prelude.{◌≡◌, ℕ, ℤ, true, ◌+◌, ◌*◌, ◌^◌, ◌<◌, List, length, Bool, ◌==◌, ◌&&◌, if◌then◌else◌}
use Rattle.cla_layout.specs.Groups.{at, value_of}
use Rattle.cla_coded.specs.declared.dense.Shape.{Shape}
use Rattle.cla_layout.specs.Layouts.{LayoutPart, IsPart, column_at, index_of, has_column, value_in, entry_in}

-- the place, row by row, of the entry in row i and column j of the base
abbrev pub place_in : Shape → ℕ → ℕ → ℕ
place_in shape i j = if shape.flipped then j * shape.rows + i else i * shape.cols + j

-- a shape with few enough cells, which are these
pub record HasCells {X : Type 0} (shape : Shape) (cells : List X) : Type 0 where
  pub count : length cells ≡ shape.rows * shape.cols
  pub few : length cells < 2 ^ 31

-- a part of a base of this shape
pub record IsPartOf (bits : ℕ) (shape : Shape) (part : LayoutPart) : Type 0 where
  pub is : IsPart bits shape.rows part
  pub columns : (c : ℕ) → c < length part.columns → column_at part.columns c < shape.cols

-- the columns of a part hold tuple k in row i; all other cells hold what they held
abbrev pub IsRowWritten : Shape → LayoutPart → ℕ → ℕ → List ℤ → List ℤ → Type 0
IsRowWritten shape part k i old new = (r j : ℕ) → r < shape.rows → j < shape.cols →
    at new (place_in shape r j)
    ≡ (if r == i && has_column part j then value_of part.tuples k (index_of part.columns j) else at old
    (place_in shape r j))

-- the columns of a part hold its values in the rows that pass a test; all other cells hold what they held
abbrev pub AreRowsWritten : (ℕ → Bool) → Shape → LayoutPart → List ℤ → List ℤ → Type 0
AreRowsWritten test shape part old new = (r j : ℕ) → r < shape.rows → j < shape.cols →
    at new (place_in shape r j) ≡ (if test r && has_column part j then value_in part r j else at old
    (place_in shape r j))

-- the same in all rows
abbrev pub IsPartWritten : Shape → LayoutPart → List ℤ → List ℤ → Type 0
IsPartWritten shape part old new = AreRowsWritten (λ r. true) shape part old new

-- the cells are the entries of these parts
abbrev pub AreEntries : Shape → List LayoutPart → List ℤ → Type 0
AreEntries shape parts cells = (i j : ℕ) → i < shape.rows → j < shape.cols → at cells (place_in shape i j)
    ≡ entry_in parts i j
