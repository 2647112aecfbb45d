-- Columns that stand side by side, each numbered through a table of its own.
use Rattle.std.specs.Prelude.{◌≡◌, ℕ, ◌+◌, ◌<◌, List, [], length, map, if◌then◌else◌, nat_eq, slice_index_or}
use Rattle.std.specs.List.{position_or_len, list_any, range_with_len}
use Rattle.cla_spec.specs.Matrix.{Matrix, entry}
use Rattle.cla_grouping.specs.Numbering.{codes_from, firsts_from}
use Rattle.cla_numbering.specs.Columns.{place_in}
use Rattle.cla_numbering.specs.Tables.{no_number, number_at}
use Rattle.cla_numbering.specs.declared.numbered.NumberedColumn.{NumberedColumn}

-- the number of a place, where it was seen
abbrev pub number_or : List ℕ → ℕ → ℕ
number_or seen p = if list_any (nat_eq p) seen then position_or_len (nat_eq p) seen else no_number

-- a column whose rows so far have these places
pub record IsNumberedTo (places : List ℕ) (column : NumberedColumn) : Type 0 where
  pub codes : column.codes.items ≡ codes_from nat_eq [] places
  pub distinct : column.distinct ≡ length (firsts_from nat_eq [] places)
  pub table : (p : ℕ) → number_at column.table.items p ≡ number_or (firsts_from nat_eq [] places) p

-- the places of a column's first n rows
abbrev pub places_to : Matrix → ℕ → ℕ → List ℕ
places_to m c n = map (λ i. place_in (entry m i c)) (range_with_len 0 n)

-- of each column, from the first on, the first rows are numbered: as many of them as `taken` says
abbrev pub AreNumberedTo : Matrix → ℕ → (ℕ → ℕ) → List NumberedColumn → Type 0
AreNumberedTo m first taken columns = (q : ℕ) (d : NumberedColumn) → q < length columns
    → IsNumberedTo (places_to m (first + q) (taken q)) (slice_index_or columns q d)
