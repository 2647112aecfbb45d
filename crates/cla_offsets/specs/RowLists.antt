-- Rows that are given as lists, code by code.
use Rattle.std.specs.Prelude.{◌≡◌, ℕ, ◌+◌, ◌-◌, ◌*◌, ◌<◌, ◌≤◌, List, [], ◌++◌, length, map, take, ◌==◌, if◌then◌else◌}
use Rattle.std.specs.Prelude.{min}
use Rattle.cla_spec.specs.Matrix.{most_cells}
use Rattle.cla_layout.specs.Groups.{code_of, first_row_of}
use Rattle.cla_layout.specs.Listed.{rows_where}
use Rattle.cla_rows.specs.Chains.{lists_to, begins_to}
use Rattle.cla_offsets.specs.Segments.{segment_rows, listed}

-- the rows of each code but the rest, code by code; where the list of each code begins, and the last one ends; and the
-- first row that has no list, if there is one
pub record AreRowLists (codes : List ℕ) (rows tuples rest first_unlisted : ℕ) (starts places : List ℕ) : Type 0 where
  pub count : length codes ≡ rows
  pub few : rows ≤ most_cells
  pub few_tuples : tuples ≤ most_cells
  pub in_tuples : (i : ℕ) → i < rows → code_of codes i < tuples
  pub starts_are : starts ≡ begins_to (listed codes rest) (tuples + 1)
  pub places_are : places ≡ lists_to (listed codes rest) tuples
  pub unlisted : rest < tuples → first_unlisted ≡ first_row_of codes rest

-- some lists one after the other, and where each of them begins and the last one ends
pub record AreChained (lists : ℕ → List ℕ) (count : ℕ) (starts places : List ℕ) : Type 0 where
  pub starts_are : starts ≡ begins_to lists (count + 1)
  pub places_are : places ≡ lists_to lists count

-- the place is item j of list k, or where it ends
pub record IsPlaceIn (lists : ℕ → List ℕ) (count k j place : ℕ) : Type 0 where
  pub there : k < count
  pub within : j ≤ length (lists k)
  pub place_is : place ≡ length (lists_to lists k) + j

-- the rows that are listed of code k and stand before row i
abbrev pub listed_before : List ℕ → ℕ → ℕ → ℕ → List ℕ
listed_before codes rest i k = if k == rest then [] else rows_where (λ j. code_of codes j == k) i

-- where segment s begins, or where the rows end
abbrev pub segment_begin : List ℕ → ℕ → ℕ
segment_begin codes s = min (length codes) (s * segment_rows)

-- the first n of some rows are those before row `end`, and they are appended as they count from row `first`
pub record ArePushed (rows : List ℕ) (first end n : ℕ) (old new : List ℕ) : Type 0 where
  pub within : n ≤ length rows
  pub before : (m : ℕ) → m < n → code_of rows m < end
  pub next : n < length rows → end ≤ code_of rows n
  pub pushed : new ≡ old ++ map (λ row. row - first) (take n rows)

-- where the rows of code k are listed that stand in segment s or behind it
abbrev pub cursor_of : List ℕ → ℕ → ℕ → ℕ → ℕ
cursor_of codes rest s k =
    length (lists_to (listed codes rest) k) + length (listed_before codes rest (segment_begin codes s) k)

-- the rows before segment s are passed in the list of each code
pub record AreAtSegment (s : ℕ) (codes : List ℕ) (tuples rest : ℕ) (starts places cursors : List ℕ) : Type 0 where
  pub few : length codes ≤ most_cells
  pub lists : AreChained (listed codes rest) tuples starts places
  pub a_cursor_each : tuples ≤ length cursors
  pub cursors_are : (k : ℕ) → k < tuples → code_of cursors k ≡ cursor_of codes rest s k
