-- The printed form of values.
use Rattle.std.specs.Prelude.{ℕ, ℤ, List, [], ◌∷◌, ◌++◌, map}
use Rattle.std.specs.List.{range_with_len, join_with_byte, concat}
use Rattle.cla_spec.specs.Numbers.{decimal_of}
use Rattle.cla_spec.specs.Matrix.{Matrix, entry}

-- a number on a line of its own
abbrev pub number_line : ℤ → List ℕ
number_line v = decimal_of v ++ 10 ∷ []

-- a row's entries, parted by one blank, on a line of their own
abbrev pub row_text : ℕ → (ℕ → ℤ) → List ℕ
row_text cols entry = join_with_byte 32 (map (λ j. decimal_of (entry j)) (range_with_len 0 cols)) ++ 10 ∷ []

-- entries row by row, a line for each row
abbrev pub rows_text : ℕ → ℕ → (ℕ → ℕ → ℤ) → List ℕ
rows_text rows cols entry = concat (map (λ i. row_text cols (entry i)) (range_with_len 0 rows))

abbrev pub matrix_text : Matrix → List ℕ
matrix_text m = rows_text m.rows m.cols (entry m)

-- a value that is printed
pub data Value : Type 0 where
  Scalar : ℤ → Value
  Table : Matrix → Value

abbrev pub printed : Value → List ℕ
printed (Scalar v) = number_line v
printed (Table m) = matrix_text m
