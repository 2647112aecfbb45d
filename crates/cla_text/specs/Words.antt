-- The words of a line: its maximal pieces without blanks.
use Rattle.std.specs.Prelude.{ℕ, List, length, map, Bool, ◌==◌, ◌||◌, nat_eq, nat_lt}
use Rattle.std.specs.List.{filter, slice_split}
use Rattle.std.specs.Char.{to_ascii_lowercase}
use Rattle.std.specs.Cmp.Lexicographic.{pointwise}

-- a space or a tab
abbrev pub is_blank : ℕ → Bool
is_blank b = b == 32 || b == 9

-- a piece that isn't empty
abbrev pub is_word : List ℕ → Bool
is_word piece = nat_lt 0 (length piece)

-- the maximal pieces without what passes p
unfoldable pub pieces_of : (ℕ → Bool) → List ℕ → List (List ℕ)
pieces_of p line = filter is_word (slice_split p line)

-- the words of a line
abbrev pub words_of : List ℕ → List (List ℕ)
words_of line = pieces_of is_blank line

-- equal, after A to Z are taken as a to z
abbrev pub is_same_word : List ℕ → List ℕ → Bool
is_same_word word lower = pointwise nat_eq (map to_ascii_lowercase word) lower
