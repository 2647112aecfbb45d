-- The tuples of columns, as they are kept.
use Rattle.std.specs.Prelude.{◌≡◌, ℕ, ℤ, pos, ◌+◌, ◌*◌, ◌<◌, ◌≤◌, List, [], ◌∷◌, length, map, slice_index_or, Bool}
use Rattle.std.specs.Prelude.{◌==◌, nat_eq, Option, Some, None, if◌then◌else◌}
use Rattle.std.specs.List.{range_with_len}
use Rattle.std.specs.Ordering.{int_eq}
use Rattle.cla_spec.specs.Matrix.{Matrix, most_cells}
use Rattle.cla_layout.specs.Groups.{code_of}
use Rattle.cla_layout.specs.Listed.{rows_where, begins_run, run_begins}
use Rattle.cla_grouping.specs.Tuples.{TuplesOf, tuples_in}
use Rattle.cla_numbering.specs.Columns.{column_of}
use Rattle.cla_numbering.specs.Tables.{no_number, number_at}
use Rattle.cla_numbering.specs.declared.numbered.NumberedColumn.{NumberedColumn}
use Rattle.cla_stats.specs.declared.coded.Coded.{Coded}

-- the tuples, as contracts see them
abbrev pub tuples_seen : Coded → TuplesOf
tuples_seen c = record { width = c.width; distinct = c.distinct; codes = c.codes.items; zero = c.zero }

-- the number of the place 0, where it has one
abbrev pub zero_numbered : List ℕ → Option ℕ
zero_numbered table = if nat_eq (number_at table 0) no_number then None else Some (number_at table 0)

-- the tuples of a column that is numbered
abbrev pub tuples_numbered : NumberedColumn → TuplesOf
tuples_numbered column = record {
  width = 1;
  distinct = column.distinct;
  codes = column.codes.items;
  zero = zero_numbered column.table.items;
}

-- these are the tuples of any column with these entries
abbrev pub AreTuplesOf : List ℤ → TuplesOf → Type 0
AreTuplesOf values t = (m : Matrix) (c : ℕ) → values ≡ column_of m c → t ≡ tuples_in m (c ∷ [])

-- whether value i is 0
abbrev pub is_zero_at : List ℤ → ℕ → Bool
is_zero_at values i = int_eq (slice_index_or values i (pos 0)) (pos 0)

-- the tuples of each of n columns by itself, from the first on
abbrev pub tuples_of_each : Matrix → ℕ → ℕ → List TuplesOf
tuples_of_each m first n = map (λ c. tuples_in m (c ∷ [])) (range_with_len first n)

-- how many maximal runs of rows have code k
abbrev pub runs_of : List ℕ → ℕ → ℕ
runs_of codes k = length (run_begins codes k)

-- for each of n codes, how many of the first rows pass its test
pub record AreTallied (test : ℕ → ℕ → Bool) (rows n : ℕ) (counts : List ℕ) : Type 0 where
  pub a_count_each : length counts ≡ n
  pub count : (k : ℕ) → k < n → code_of counts k ≡ length (rows_where (test k) rows)

abbrev pub has_code : List ℕ → ℕ → ℕ → Bool
has_code codes k i = code_of codes i == k

-- for each of the tuples how many rows and how many maximal runs have it
pub record AreCounts (t : TuplesOf) (occurrences runs : List ℕ) : Type 0 where
  pub occurring : AreTallied (has_code t.codes) (length t.codes) t.distinct occurrences
  pub running : AreTallied (begins_run t.codes) (length t.codes) t.distinct runs

-- two groups of columns of the same rows, few enough to be one
pub record CanJoin (a b : TuplesOf) : Type 0 where
  pub rows : length b.codes ≡ length a.codes
  pub few_cells : length a.codes * (a.width + b.width) ≤ most_cells
