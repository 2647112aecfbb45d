-- Tables of how many rows have each code, and of the first of them.
use Rattle.std.specs.Prelude.{◌≡◌, ℕ, ◌<◌, List, length}
use Rattle.cla_layout.specs.Groups.{code_of, occurrences_of, first_row_of}

-- for each of `tuples` codes how many rows have it, and the least of them
pub record AreCounted (codes : List ℕ) (tuples : ℕ) (counts first_rows : List ℕ) : Type 0 where
  pub a_count_each : length counts ≡ tuples
  pub a_row_each : length first_rows ≡ tuples
  pub count : (k : ℕ) → k < tuples → code_of counts k ≡ occurrences_of codes k
  pub first_row : (k : ℕ) → k < tuples → code_of first_rows k ≡ first_row_of codes k
