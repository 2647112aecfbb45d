-- Least and greatest values.
use Rattle.std.specs.Prelude.{◌≡◌, ℕ, ℤ, ◌<◌, List, length}
use Rattle.cla_layout.specs.Groups.{value_of}
use Rattle.cla_layout.specs.Layouts.{LayoutPart, part_at}

-- v is a value of the first n parts, and stands before all of them
pub record IsFirstOfParts (Before : ℤ → ℤ → Type 0) (parts : List LayoutPart) (n : ℕ) (v : ℤ) : Type 0 where
  pub reached : (q : ℕ) × (k : ℕ) × (c : ℕ) × (q < n) × (k < length (part_at parts q).tuples)
      × (c < length (part_at parts q).columns)
      × (value_of (part_at parts q).tuples k c ≡ v)
  pub before : (q k c : ℕ) → q < n → k < length (part_at parts q).tuples → c < length (part_at parts q).columns
      → Before v (value_of (part_at parts q).tuples k c)
