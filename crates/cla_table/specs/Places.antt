-- Where a cell stands among cells in panels of rows. A panel is some rows that follow one another, and its cells stand
-- column by column; the panels stand from the first row to the last.
use Rattle.std.specs.Prelude.{◌≡◌, ℕ, ◌+◌, ◌-◌, ◌*◌, ◌/◌, ◌%◌, ◌<◌, min, List, length, slice_index_or}

-- the first row of a row's panel
abbrev pub first_of : ℕ → ℕ → ℕ
first_of panel i = i - i % panel

-- how many rows that panel has
abbrev pub height_of : ℕ → ℕ → ℕ → ℕ
height_of panel rows first = min panel (rows - first)

-- a cell of a panel
abbrev pub place_from : ℕ → ℕ → ℕ → ℕ → ℕ → ℕ
place_from first height cols i j = first * cols + j * height + (i - first)

-- a cell among panels
unfoldable pub place_of : ℕ → ℕ → ℕ → ℕ → ℕ → ℕ
place_of panel rows cols i j = place_from (first_of panel i) (height_of panel rows (first_of panel i)) cols i j

-- the cells of one panel, column by column, were turned to row by row
abbrev pub Turns : {X : Type 0} → ℕ → ℕ → List X → List X → Type 0
Turns {X} height cols old new = (k : ℕ) (d : X) → k < length old
    → slice_index_or new k d ≡ slice_index_or old ((k % cols) * height + k / cols) d

-- all panels were turned
abbrev pub AreTurned : {X : Type 0} → ℕ → ℕ → ℕ → List X → List X → Type 0
AreTurned {X} panel rows cols old new = (k : ℕ) (d : X) → k < rows * cols
    → slice_index_or new k d ≡ slice_index_or old (place_of panel rows cols (k / cols) (k % cols)) d
