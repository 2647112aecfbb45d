-- The text that is written for a matrix, cell by cell.
use Rattle.std.specs.Prelude.{ℕ, List, [], ◌∷◌, ◌++◌, length, map, Bool, if◌then◌else◌, not}
use Rattle.std.specs.List.{range_with_len, filter, flat_map}
use Rattle.cla_spec.specs.Matrix.{Matrix, entry}
use Rattle.cla_market.specs.Entries.{Triple}
use Rattle.cla_market.specs.Texts.{is_zero_value, triple_line}
use Rattle.cla_print.specs.Pieces.{pieces}

abbrev pub triple_at : Matrix → ℕ → ℕ → Triple
triple_at m j i = record { row = i; col = j; value = entry m i j }

-- the line of an entry; an entry that is 0 has none
abbrev pub cell_text : Matrix → ℕ → ℕ → List ℕ
cell_text m j i = if is_zero_value (entry m i j) then [] else triple_line (triple_at m j i) ++ 10 ∷ []

-- the lines of the entries of a column
abbrev pub column_text : Matrix → ℕ → List ℕ
column_text m j = pieces (cell_text m j) m.rows

abbrev pub is_kept : Triple → Bool
is_kept t = not (is_zero_value t.value)

-- how many of the first n entries of a column aren't 0
abbrev pub count_in_column : Matrix → ℕ → ℕ → ℕ
count_in_column m j n = length (filter is_kept (map (triple_at m j) (range_with_len 0 n)))

-- how many entries of the first n columns aren't 0
abbrev pub count_in_columns : Matrix → ℕ → ℕ
count_in_columns m n = length (filter is_kept (flat_map (λ j. map (triple_at m j) (range_with_len 0 m.rows))
    (range_with_len 0 n)))
