-- Entries of columns, one by one and side by side.
use Rattle.std.specs.Prelude.{◌≡◌, ℕ, ℤ, pos, ◌+◌, ◌<◌, List, length, map, slice_index_or, Vec}
use Rattle.std.specs.List.{range_with_len}
use Rattle.std.specs.declared.alloc.Global.{Global}
use Rattle.cla_spec.specs.Bytes.{number_of, value_bytes}
use Rattle.cla_spec.specs.Matrix.{Matrix, entry}

-- the entries of a column, row by row
abbrev pub column_of : Matrix → ℕ → List ℤ
column_of m c = map (λ i. entry m i c) (range_with_len 0 m.rows)

-- the place of a value in a table: the value itself, or past all tables where it is below 0
unfoldable pub place_in : ℤ → ℕ
place_in v = number_of (value_bytes 8 v)

-- the place of row i
abbrev pub place_at_row : {N : Type 0} → (N → ℤ) → List N → ℕ → ℕ
place_at_row value items i = place_in (slice_index_or (map value items) i (pos 0))

-- of each column, from the first on, the entries of its first rows: as many of them as `taken` says
abbrev pub AreGathered : {N : Type 0} → (N → ℤ) → Matrix → ℕ → (ℕ → ℕ) → List (Vec N Global) → Type 0
AreGathered {N} value m first taken columns = (q : ℕ) (d : Vec N Global) → q < length columns
    → map value (slice_index_or columns q d).items ≡ map (λ i. entry m i (first + q)) (range_with_len 0 (taken q))
