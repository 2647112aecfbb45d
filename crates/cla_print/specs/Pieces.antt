-- Texts as pieces, one for each entry or row.
use Rattle.std.specs.Prelude.{ℕ, ℤ, ◌+◌, List, [], ◌∷◌, ◌++◌, map, nat_lt, if◌then◌else◌}
use Rattle.std.specs.List.{range_with_len, concat}
use Rattle.cla_spec.specs.Numbers.{decimal_of}

-- the first n pieces
abbrev pub pieces : (ℕ → List ℕ) → ℕ → List ℕ
pieces f n = concat (map f (range_with_len 0 n))

-- the byte behind an entry: a blank, or LF in the last column
abbrev pub entry_end : ℕ → ℕ → ℕ
entry_end cols j = if nat_lt (j + 1) cols then 32 else 10

-- an entry of a row, and the byte behind it
abbrev pub entry_piece : ℕ → (ℕ → ℤ) → ℕ → List ℕ
entry_piece cols row j = decimal_of (row j) ++ entry_end cols j ∷ []
