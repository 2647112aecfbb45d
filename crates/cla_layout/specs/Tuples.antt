-- Dictionaries that are kept as values in a row, tuple after tuple.
use Rattle.std.specs.Prelude.{◌≡◌, ℕ, ℤ, ◌+◌, ◌*◌, ◌<◌, ◌≤◌, List, length, map}
use Rattle.std.specs.List.{range_with_len}
use Rattle.cla_spec.specs.Matrix.{most_cells}
use Rattle.cla_layout.specs.Groups.{at, code_of, occurrences_of}

-- tuple k of values that stand tuple after tuple
abbrev pub tuple_at : ℕ → List ℤ → ℕ → List ℤ
tuple_at width values k = map (λ c. at values (k * width + c)) (range_with_len 0 width)

-- the first n tuples of values that stand tuple after tuple
abbrev pub tuples_of : ℕ → ℕ → List ℤ → List (List ℤ)
tuples_of width n values = map (tuple_at width values) (range_with_len 0 n)

-- the codes of rows, and how many values their n tuples have in all
pub record AreCodes (width n : ℕ) (codes : List ℕ) (values : ℕ) : Type 0 where
  pub a_row : 1 ≤ length codes
  pub a_column : 1 ≤ width
  pub few_cells : length codes * width ≤ most_cells
  pub whole : values ≡ n * width
  pub in_tuples : (i : ℕ) → i < length codes → code_of codes i < n
  pub used : (k : ℕ) → k < n → 0 < occurrences_of codes k
