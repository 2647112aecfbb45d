-- Pairs of codes that are numbered through a table with a place for each pair.
use Rattle.std.specs.Prelude.{◌≡◌, ℕ, ◌+◌, ◌*◌, ◌-◌, ◌^◌, ◌<◌, List, length, map, Bool, if◌then◌else◌, nat_eq}
use Rattle.std.specs.Prelude.{slice_index_or, slice_set}
use Rattle.std.specs.List.{range_with_len}
use Rattle.cla_layout.specs.Groups.{code_of}
use Rattle.cla_grouping.specs.Numbering.{codes_by, first_rows_by}
use Rattle.cla_numbering.specs.declared.numbered.Numbered.{Numbered}

-- codes of n rows, numbered by first row, and how many there are
pub record AreNumberedBy (same : ℕ → ℕ → Bool) (n : ℕ) (found : Numbered) : Type 0 where
  pub codes : found.codes.items ≡ codes_by same n
  pub distinct : found.distinct ≡ length (first_rows_by same n)

-- the pair of codes of row i, as a number in two digits: where it stands in a table of all pairs
abbrev pub place_at : List ℕ → List ℕ → ℕ → ℕ → ℕ
place_at a b wide i = code_of a i * wide + code_of b i

-- the places of all rows
abbrev pub places_of : List ℕ → List ℕ → ℕ → List ℕ
places_of a b wide = map (place_at a b wide) (range_with_len 0 (length a))

-- each code of a list is below n
abbrev pub AreBelow : ℕ → List ℕ → Type 0
AreBelow n codes = (i : ℕ) → i < length codes → code_of codes i < n

-- what stands in a table at a place that has no number
abbrev pub no_number : ℕ
no_number = 2 ^ 32 - 1

abbrev pub number_at : List ℕ → ℕ → ℕ
number_at table p = slice_index_or table p no_number

-- the number that a place gets, the table after it, and the next number
abbrev pub number_put : List ℕ → ℕ → ℕ → ℕ
number_put table next p = if nat_eq (number_at table p) no_number then next else number_at table p

abbrev pub table_put : List ℕ → ℕ → ℕ → List ℕ
table_put table next p = if nat_eq (number_at table p) no_number then slice_set table p next else table

abbrev pub next_put : List ℕ → ℕ → ℕ → ℕ
next_put table next p = if nat_eq (number_at table p) no_number then next + 1 else next
