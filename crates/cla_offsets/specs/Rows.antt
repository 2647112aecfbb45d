-- The rows of a group, as they are seen.
use Rattle.std.specs.Prelude.{ℕ, List, Option, Some, None, nat_lt, if◌then◌else◌}

-- the code of each row, how many codes there are, and the one that has no lists
pub record OffsetsOf : Type 0 where
  pub codes : List ℕ
  pub tuples : ℕ
  pub rest : ℕ

-- the code that no list names, if there is one
abbrev pub rest_in : OffsetsOf → Option ℕ
rest_in rows = if nat_lt rows.rest rows.tuples then Some rows.rest else None
