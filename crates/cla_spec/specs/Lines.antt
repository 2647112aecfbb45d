-- The lines of a text. A line ends at LF, and one CR at its end is dropped; bytes after the last LF are a line.
use Rattle.std.specs.Prelude.{ℕ, ◌-◌, List, [], ◌∷◌, length, take, Bool, ◌==◌, ◌&&◌, nat_lt, if◌then◌else◌, slice_index}
use Rattle.std.specs.List.{slice_split, before_first, after_first}

abbrev pub is_lf : ℕ → Bool
is_lf b = b == 10

-- a line without one CR at its end
abbrev pub without_cr : List ℕ → List ℕ
without_cr line = if nat_lt 0 (length line) && slice_index line (length line - 1) == 13 then take (length line - 1) line
    else line

-- the pieces between the LFs, but for an empty last one
abbrev pub ended_lines : List (List ℕ) → List (List ℕ)
ended_lines [] = []
ended_lines (piece ∷ []) = if length piece == 0 then [] else without_cr piece ∷ []
ended_lines (piece ∷ next ∷ more) = without_cr piece ∷ ended_lines (next ∷ more)

-- the lines of a text
unfoldable pub lines_of : List ℕ → List (List ℕ)
lines_of text = ended_lines (slice_split is_lf text)

-- the first line of a text, and what stands behind it
unfoldable pub first_line : List ℕ → List ℕ
first_line text = without_cr (before_first is_lf text)

unfoldable pub after_line : List ℕ → List ℕ
after_line text = after_first is_lf text
