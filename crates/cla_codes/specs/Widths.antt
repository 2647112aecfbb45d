-- How many bytes the code of a row takes.
use Rattle.std.specs.Prelude.{◌≡◌, ℕ, ◌^◌, ◌≤◌, Bool, true, ◌||◌, ◌==◌}

-- a code takes one byte, two or four
abbrev pub is_code_width : ℕ → Bool
is_code_width bytes = bytes == 1 || bytes == 2 || bytes == 4

-- codes of this many bytes can name so many tuples
pub record FitsWidth (bytes tuples : ℕ) : Type 0 where
  pub width : is_code_width bytes ≡ true
  pub few : tuples ≤ 256 ^ bytes
