-- Sums over the values of tuples and parts.
use Rattle.std.specs.Prelude.{◌≡◌, ℕ, ℤ, ◌+◌, ◌*◌, ◌^◌, ◌<◌, ◌≤◌, ◌*ℤ◌, List, length, sum_by, nat_le, min}
use Rattle.std.specs.Int.{w128}
use Rattle.std.specs.Int.RustNames.{FitsSigned}
use Rattle.std.specs.List.{count_by}
use Rattle.cla_spec.specs.Numbers.{sum_to}
use Rattle.cla_layout.specs.Groups.{at, code_of, value_of, cell_of}
use Rattle.cla_layout.specs.Layouts.{LayoutPart, part_at, column_at}

-- the first n values of a tuple, each times the item of its column
abbrev pub tuple_times : List (List ℤ) → List ℕ → List ℤ → ℕ → ℕ → ℤ
tuple_times tuples columns items k n = sum_to (λ c. value_of tuples k c *ℤ at items (column_at columns c)) n

-- what a part gives to row i of the product with a vector
abbrev pub part_times : List ℤ → ℕ → LayoutPart → ℤ
part_times items i part = tuple_times part.tuples part.columns items (code_of part.codes i) (length part.columns)

-- the values in place c of the first n tuples, each times what was gathered for its tuple
abbrev pub column_times : List (List ℤ) → List ℤ → ℕ → ℕ → ℤ
column_times tuples gathered c n = sum_to (λ k. value_of tuples k c *ℤ at gathered k) n

-- each value times what was gathered for its tuple fits, and so do their sums
pub record FitsColumns (tuples : List (List ℤ)) (gathered : List ℤ) (width : ℕ) : Type 0 where
  pub products : (k c : ℕ) → k < length tuples → c < width → FitsSigned w128 (value_of tuples k c *ℤ at gathered k)
  pub sums : (c n : ℕ) → c < width → n ≤ length tuples → FitsSigned w128 (column_times tuples gathered c n)

-- no part has more than n tuples
abbrev pub HasTuplesUpTo : ℕ → List LayoutPart → Type 0
HasTuplesUpTo n parts = (q : ℕ) → q < length parts → length (part_at parts q).tuples ≤ n

-- of a list of columns, those from place `first` to before place n hold these values, and all else what it held
pub record AreSet (first n : ℕ) (columns : List ℕ) (value : ℕ → ℤ) (old new : List ℤ) : Type 0 where
  pub here : (c : ℕ) → first ≤ c → c < n → at new (column_at columns c) ≡ value c
  pub kept : (j : ℕ) → ((c : ℕ) → first ≤ c → c < n → column_at columns c ≡ j → ⊥) → at new j ≡ at old j

-- the columns of a part, from column `from` on, hold the product with a vector; columns of other parts hold what
-- they held
pub record AreGathered (from rows : ℕ) (part : LayoutPart) (item : ℕ → ℤ) (old new : List ℤ) : Type 0 where
  pub here : (c : ℕ) → c < length part.columns → from ≤ column_at part.columns c →
      at new (column_at part.columns c) ≡ sum_to (λ i. cell_of part.codes part.tuples i c *ℤ item i) rows
  pub kept : (j : ℕ) → ((c : ℕ) → c < length part.columns → column_at part.columns c ≡ j → ⊥) → at new j ≡ at old j

-- how many columns there are from column `from` on
abbrev pub columns_from : ℕ → List ℕ → ℕ
columns_from from columns = count_by (λ j. nat_le from j) columns

-- how many values the parts have in these columns
abbrev pub values_from : ℕ → List LayoutPart → ℕ
values_from from parts = sum_by (λ part. length part.tuples * columns_from from part.columns) parts

-- what the first n columns multiply, each with the columns from it on: a column with number j + 1 stands in that
-- many of these products, or in all n
abbrev pub numbers_to : ℕ → List ℕ → ℕ
numbers_to n columns = sum_by (λ j. min (j + 1) n) columns

abbrev pub self_values_to : ℕ → List LayoutPart → ℕ
self_values_to n parts = sum_by (λ part. length part.tuples * numbers_to n part.columns) parts

-- the counts with which the product with one vector may begin, and that of one part and of one tuple
abbrev pub line_bound : ℕ
line_bound = 2 ^ 127 + 2 ^ 126 + 2 ^ 54

abbrev pub part_bound : ℕ
part_bound = 2 ^ 127 + 2 ^ 126 + 2 ^ 55

abbrev pub tuple_bound : ℕ
tuple_bound = 2 ^ 127 + 2 ^ 126 + 2 ^ 56
