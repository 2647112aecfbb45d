-- Dictionaries: the tuples of a group.
use Rattle.std.specs.Prelude.{◌≡◌, ℕ, ℤ, ◌+◌, ◌*◌, ◌<◌, ◌≤◌, List, [], length, map, slice_index_or}
use Rattle.cla_spec.specs.Numbers.{InRange}
use Rattle.cla_spec.specs.Matrix.{most_cells}
use Rattle.cla_layout.specs.Groups.{at, code_of, value_of}

-- a dictionary: how many values each tuple has, and the tuples
pub record DictionaryOf : Type 0 where
  pub width : ℕ
  pub tuples : List (List ℤ)

-- what holds of the tuples of each dictionary
pub record AreTuples (bits width : ℕ) (tuples : List (List ℤ)) : Type 0 where
  pub a_column : 1 ≤ width
  pub a_tuple : 1 ≤ length tuples
  pub few : length tuples * width ≤ most_cells
  pub full : (k : ℕ) → k < length tuples → length (slice_index_or tuples k []) ≡ width
  pub small : (k c : ℕ) → k < length tuples → c < width → InRange bits (value_of tuples k c)

-- n tuples of so many values each are so many values
pub record AreValues (width n values : ℕ) : Type 0 where
  pub a_column : 1 ≤ width
  pub a_tuple : 1 ≤ n
  pub whole : values ≡ n * width
  pub few : values ≤ most_cells

-- the tuples that `order` names
abbrev pub in_order : List ℕ → List (List ℤ) → List (List ℤ)
in_order order tuples = map (λ k. slice_index_or tuples k []) order

-- values tuple after tuple: tuple k has those of the old tuple order k
abbrev pub AreInOrder : ℕ → List ℕ → List ℤ → List ℤ → Type 0
AreInOrder width order old new = (k c : ℕ) → k < length order → c < width → at new (k * width + c)
    ≡ at old (code_of order k * width + c)
