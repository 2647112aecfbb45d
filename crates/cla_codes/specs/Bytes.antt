-- Codes of rows in bytes, the least byte first.
use Rattle.std.specs.Prelude.{◌≡◌, ℕ, zero, suc, ◌+◌, ◌*◌, ◌/◌, ◌%◌, ◌<◌, ◌≤◌, List, [], ◌∷◌, length, map}
use Rattle.std.specs.Prelude.{slice_index_or, true}
use Rattle.std.specs.List.{range_with_len}
use Rattle.cla_spec.specs.Matrix.{most_cells}
use Rattle.cla_rows.specs.Counted.{AreCounted}
use Rattle.cla_codes.specs.Widths.{is_code_width}

-- the number in w bytes from a place on, the least byte first
abbrev pub number_at : ℕ → List ℕ → ℕ → ℕ
number_at zero bytes at = 0
number_at (suc w) bytes at = slice_index_or bytes at 0 + 256 * number_at w bytes (at + 1)

-- the w bytes of a number
abbrev pub bytes_of : ℕ → ℕ → List ℕ
bytes_of zero n = []
bytes_of (suc w) n = n % 256 ∷ bytes_of w (n / 256)

-- the codes of rows that take w bytes each
abbrev pub codes_in : ℕ → List ℕ → ℕ → List ℕ
codes_in w bytes rows = map (λ i. number_at w bytes (i * w)) (range_with_len 0 rows)

-- codes of rows, and how many bytes each of them takes
pub record RowCodesOf : Type 0 where
  pub width : ℕ
  pub codes : List ℕ

abbrev pub row_codes : ℕ → List ℕ → RowCodesOf
row_codes w bytes = record { width = w; codes = codes_in w bytes (length bytes / w) }

-- bytes are those of whole codes
pub record AreRowCodes (w : ℕ) (bytes : List ℕ) : Type 0 where
  pub width : is_code_width w ≡ true
  pub whole : length bytes ≡ length bytes / w * w

-- the first n codes are written
pub record AreWritten (w n : ℕ) (codes bytes : List ℕ) : Type 0 where
  pub size : length bytes ≡ n * w
  pub each : (i : ℕ) → i < n → number_at w bytes (i * w) ≡ slice_index_or codes i 0

-- what is kept of codes: their bytes, and the rows of each code counted
pub record AreKept (w rows : ℕ) (codes bytes counts first_rows : List ℕ) : Type 0 where
  pub width : is_code_width w ≡ true
  pub few : rows ≤ most_cells
  pub size : length bytes ≡ rows * w
  pub counted : AreCounted codes (length counts) counts first_rows
  pub below : (i : ℕ) → i < length codes → slice_index_or codes i 0 < length counts
