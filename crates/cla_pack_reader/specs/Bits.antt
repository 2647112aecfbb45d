-- Marks that are kept as bits of words.
use Rattle.std.specs.Prelude.{ℕ, ◌/◌, ◌%◌, List, map, Bool, ◌==◌, slice_index_or}
use Rattle.std.specs.List.{range_with_len}
use Rattle.std.specs.Int.{bit_at}

-- whether number c has a mark: its bit in words of 64
abbrev pub mark_in : List ℕ → ℕ → Bool
mark_in words c = bit_at (slice_index_or words (c / 64) 0) (c % 64) == 1

-- the marks of the first n numbers
abbrev pub marks_in : List ℕ → ℕ → List Bool
marks_in words n = map (mark_in words) (range_with_len 0 n)
