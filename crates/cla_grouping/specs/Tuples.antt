-- The tuples of some columns of a matrix (PVLDB 9(12), section 3): the rows, cut to these columns.
use Rattle.std.specs.Prelude.{◌≡◌, ℕ, ℤ, pos, ◌+◌, ◌*◌, ◌<◌, ◌≤◌, List, length, map, Bool, ◌&&◌, nat_lt, Option, Some}
use Rattle.std.specs.Prelude.{None, if◌then◌else◌}
use Rattle.std.specs.List.{position_or_len, list_all, range_with_len}
use Rattle.std.specs.Ordering.{int_eq}
use Rattle.cla_spec.specs.Matrix.{Matrix, entry, most_cells}
use Rattle.cla_layout.specs.Groups.{code_of}
use Rattle.cla_layout.specs.Listed.{is_rest}
use Rattle.cla_grouping.specs.Numbering.{codes_by, first_rows_by, same_pair}

-- two rows have the same tuple in these columns
abbrev pub same_tuple : Matrix → List ℕ → ℕ → ℕ → Bool
same_tuple m columns i j = list_all (λ c. int_eq (entry m i c) (entry m j c)) columns

-- a row has zeros alone in these columns
abbrev pub is_zero_row : Matrix → List ℕ → ℕ → Bool
is_zero_row m columns i = list_all (λ c. int_eq (entry m i c) (pos 0)) columns

-- the tuple of a row
abbrev pub tuple_in_row : Matrix → List ℕ → ℕ → List ℤ
tuple_in_row m columns i = map (entry m i) columns

-- the distinct tuples, by the first rows that have them
abbrev pub distinct_tuples : Matrix → List ℕ → List (List ℤ)
distinct_tuples m columns = map (tuple_in_row m columns) (first_rows_by (same_tuple m columns) m.rows)

-- What the sizes of columns hang on: how many columns there are, how many distinct tuples, the code of each row's
-- tuple,
-- and the code of the tuple of zeros, where it occurs.
pub record TuplesOf : Type 0 where
  pub width : ℕ
  pub distinct : ℕ
  pub codes : List ℕ
  pub zero : Option ℕ

-- the code of the first row that passes a test, if one does
abbrev pub code_where : (ℕ → Bool) → List ℕ → Option ℕ
code_where test codes = let i = position_or_len test (range_with_len 0 (length codes)) in
    if nat_lt i (length codes) then Some (code_of codes i) else None

-- so many columns with so many tuples, by which rows are the same and which have zeros alone
abbrev pub tuples_by : ℕ → (ℕ → ℕ → Bool) → (ℕ → Bool) → ℕ → TuplesOf
tuples_by width same is_zero rows = record {
  width = width;
  distinct = length (first_rows_by same rows);
  codes = codes_by same rows;
  zero = code_where is_zero (codes_by same rows);
}

-- the tuples of some columns of a matrix, numbered by the first rows that have them
abbrev pub tuples_in : Matrix → List ℕ → TuplesOf
tuples_in m columns = tuples_by (length columns) (same_tuple m columns) (is_zero_row m columns) m.rows

-- the pairs of the tuples of two groups of columns: a pair is zero where both are
abbrev pub joined : TuplesOf → TuplesOf → TuplesOf
joined a b = tuples_by (a.width + b.width) (same_pair a.codes b.codes)
    (λ i. is_rest a.zero (code_of a.codes i) && is_rest b.zero (code_of b.codes i)) (length a.codes)

-- columns of a matrix of so many: one at least, in rising order
pub record AreColumns (cols : ℕ) (columns : List ℕ) : Type 0 where
  pub some : 0 < length columns
  pub rising : (c d : ℕ) → c < d → d < length columns → code_of columns c < code_of columns d
  pub within : (c : ℕ) → c < length columns → code_of columns c < cols

-- what holds of the tuples of columns: rows and columns, few cells, each code names a tuple, and no more tuples than
-- rows
pub record AreTuples (t : TuplesOf) : Type 0 where
  pub a_row : 1 ≤ length t.codes
  pub a_column : 1 ≤ t.width
  pub few_cells : length t.codes * t.width ≤ most_cells
  pub below : (i : ℕ) → i < length t.codes → code_of t.codes i < t.distinct
  pub few : t.distinct ≤ length t.codes
  pub zero_below : (k : ℕ) → t.zero ≡ Some k → k < t.distinct
