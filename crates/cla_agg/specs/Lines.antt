-- What is made of each row or column of a matrix.
use Rattle.std.specs.Prelude.{◌≡◌, ◌⊎◌, ℕ, ℤ, false, ◌+◌, ◌*◌, ◌<◌, ◌≤◌, List, length, map, Some, None, Result, Ok, Err}
use Rattle.cla_spec.specs.Numbers.{sum_to}
use Rattle.cla_spec.specs.Matrix.{Matrix, entry}
use Rattle.cla_num.specs.Fault.{fault_of, exactly}
use Rattle.cla_num.specs.declared.fault.Refused.{Refused}
use Rattle.cla_num.specs.declared.fault.Refused.TheVariants.{Op, Memory}
use Rattle.cla_layout.specs.Groups.{at, cell_of, value_of}
use Rattle.cla_layout.specs.GroupLaws.{IsExtreme}
use Rattle.cla_layout.specs.Layouts.{LayoutPart, part_at, column_at, has_column}
use Rattle.cla_layout.proofs.Cells.{occurring}
use Rattle.cla_meaning.specs.Entries.{Entry}

-- a matrix of one column has in each row the first entry of the row, in an order: the least, or the greatest
pub record AreRowExtremes (Before : ℤ → ℤ → Type 0) (rows cols : ℕ) (a : Entry) (m : Matrix) : Type 0 where
  pub height : m.rows ≡ rows
  pub width : m.cols ≡ 1
  pub each : (i : ℕ) → i < rows → IsExtreme Before (a i) cols (entry m i 0)

-- a matrix of one row has in each column the first entry of the column
pub record AreColExtremes (Before : ℤ → ℤ → Type 0) (rows cols : ℕ) (a : Entry) (m : Matrix) : Type 0 where
  pub height : m.rows ≡ 1
  pub width : m.cols ≡ cols
  pub each : (j : ℕ) → j < cols → IsExtreme Before (λ i. a i j) rows (entry m 0 j)

-- so many places hold something of each tuple of any part
abbrev pub IsRoomForTuples : List LayoutPart → ℕ → Type 0
IsRoomForTuples parts n = (q : ℕ) → q < length parts → length (part_at parts q).tuples ≤ n

-- one row or one column of n cells
abbrev pub IsLine : ℕ → ℕ → ℕ → Type 0
IsLine n rows cols = (rows ≡ 1) × (cols ≡ n) ⊎ (rows ≡ n) × (cols ≡ 1)

-- a matrix of this shape, of whose cells this holds
pub record HasCells (Holds : ℕ → ℤ → Type 0) (rows cols : ℕ) (m : Matrix) : Type 0 where
  pub height : m.rows ≡ rows
  pub width : m.cols ≡ cols
  pub each : (p : ℕ) → p < rows * cols → Holds p (at m.cells p)

-- all cells as numbers, where none is out of range, or else the first fault
abbrev pub AnswersCells : {N : Type 0} → ℕ → (N → ℤ) → ℕ → ℕ → List ℤ → Result (List N) Refused → Type 0
AnswersCells bits value rows cols cells (Ok numbers) =
    (map value numbers ≡ cells) × (fault_of bits rows cols (exactly (λ i j. at cells (i * cols + j))) ≡ None)
AnswersCells bits value rows cols cells (Err (Op fault)) =
    fault_of bits rows cols (exactly (λ i j. at cells (i * cols + j))) ≡ Some fault
AnswersCells bits value rows cols cells (Err Memory) = Unit {0}

-- v is the sum of the first n values
abbrev pub IsSumOf : (ℕ → ℤ) → ℕ → ℤ → Type 0
IsSumOf f n v = v ≡ sum_to f n

-- what is made of each column of a part stands at the column's place; other places keep what they held
pub record ArePlaced (Of : (ℕ → ℤ) → ℕ → ℤ → Type 0) (part : LayoutPart) (old new : List ℤ) : Type 0 where
  pub made : (c : ℕ) → c < length part.columns →
      Of (λ i. cell_of part.codes part.tuples i c) (length part.codes) (at new (column_at part.columns c))
  pub kept : (j : ℕ) → has_column part j ≡ false → at new j ≡ at old j

-- the first k tuples are added up, each as often as it occurs, at the places of the columns
abbrev pub AreAddedTo : ℕ → LayoutPart → List ℤ → Type 0
AreAddedTo k part into = (c : ℕ) → c < length part.columns →
    at into (column_at part.columns c) ≡ sum_to (λ l. occurring part.codes part.tuples l c) k

-- and others up to this one
pub record AreTuplesAdded (end : ℕ) (part : LayoutPart) (old new : List ℤ) : Type 0 where
  pub added : AreAddedTo end part new
  pub kept : (j : ℕ) → has_column part j ≡ false → at new j ≡ at old j

-- of each column of a part a value is made and stands at the column's place; other places keep what they held
pub record AreMade (Of : ℕ → ℤ → Type 0) (part : LayoutPart) (old new : List ℤ) : Type 0 where
  pub made : (c : ℕ) → c < length part.columns → Of c (at new (column_at part.columns c))
  pub kept : (j : ℕ) → has_column part j ≡ false → at new j ≡ at old j

-- v is the first tuple's value in place c
abbrev pub IsFirstValue : LayoutPart → ℕ → ℤ → Type 0
IsFirstValue part c v = v ≡ value_of part.tuples 0 c

-- v is the extreme of the first k tuples' values in place c
abbrev pub IsChosen : (ℤ → ℤ → Type 0) → LayoutPart → ℕ → ℕ → ℤ → Type 0
IsChosen Before part k c v = IsExtreme Before (λ l. value_of part.tuples l c) k v
