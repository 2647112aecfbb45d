-- What the union of two groups of columns would be, by the pairs of their codes.
use Rattle.std.specs.Prelude.{◌≡◌, ℕ, ◌+◌, ◌-◌, ◌<◌, ◌≤◌, List, [], length, map, Bool, not, ◌&&◌, ◌||◌, ◌==◌}
use Rattle.std.specs.Prelude.{nat_lt, nat_eq, max, Option, Some, None, if◌then◌else◌}
use Rattle.cla_layout.specs.Groups.{code_of}
use Rattle.cla_layout.specs.Listed.{is_rest, rows_where}
use Rattle.cla_grouping.specs.Numbering.{same_pair, first_rows_by, firsts_from}
use Rattle.cla_grouping.specs.Tuples.{TuplesOf}
use Rattle.cla_grouping.specs.Sizes.{figures_of, best_bytes}
use Rattle.cla_grouping.specs.declared.sizes.Figures.{Figures}
use Rattle.cla_numbering.specs.Tables.{place_at}

-- a number of tuples, unless it is above the most that are asked for
abbrev pub CountGives : ℕ → ℕ → Option ℕ → Type 0
CountGives most tuples None = most < tuples
CountGives most tuples (Some n) = n ≡ tuples

-- a saving, unless it is not above the least that is asked for
abbrev pub SavingGives : ℕ → ℕ → Option ℕ → Type 0
SavingGives least saving None = saving ≤ least
SavingGives least saving (Some s) = s ≡ saving

-- the bytes of a group with these tuples, unless they are no fewer than the target
abbrev pub BytesGive : ℕ → TuplesOf → Option ℕ → Type 0
BytesGive target t None = target ≤ best_bytes (figures_of t)
BytesGive target t (Some bytes) = bytes ≡ best_bytes (figures_of t)

-- how many pairs of tuples there are
abbrev pub pairs_of : TuplesOf → TuplesOf → ℕ
pairs_of a b = length (first_rows_by (same_pair a.codes b.codes) (length a.codes))

-- how many different pairs these rows have, by the places of the pairs in a table
abbrev pub pairs_in : List ℕ → List ℕ → ℕ → List ℕ → ℕ
pairs_in a b wide rows = length (firsts_from nat_eq [] (map (place_at a b wide) rows))

-- whether row i has a pair that is listed: any but the pair of zeros
abbrev pub is_listed_pair : Option ℕ → List ℕ → Option ℕ → List ℕ → ℕ → Bool
is_listed_pair first a second b i = not (is_rest first (code_of a i) && is_rest second (code_of b i))

-- whether a maximal run of a listed pair begins at row i
abbrev pub begins_pair : Option ℕ → List ℕ → Option ℕ → List ℕ → ℕ → Bool
begins_pair first a second b i = is_listed_pair first a second b i && (i == 0 || not (same_pair a b (i - 1) i))

-- the figures of the union, but for its tuples
abbrev pub floor_of : TuplesOf → TuplesOf → Figures
floor_of a b = record {
  width = a.width + b.width;
  rows = length a.codes;
  distinct = 0;
  listed = 0;
  listed_rows = length (rows_where (is_listed_pair a.zero a.codes b.zero b.codes) (length a.codes));
  listed_runs = length (rows_where (begins_pair a.zero a.codes b.zero b.codes) (length a.codes));
}

-- these figures with so many tuples: all are listed, or all but one where some row isn't
abbrev pub with_distinct_of : Figures → ℕ → Figures
with_distinct_of f distinct = record f {
  distinct = distinct;
  listed = if nat_lt f.listed_rows f.rows then distinct - 1 else distinct;
}

-- no more than the figures of the union: of the listed rows and of the runs it has no fewer than either part
abbrev pub least_of : TuplesOf → TuplesOf → Figures
least_of a b = record {
  width = a.width + b.width;
  rows = length a.codes;
  distinct = 0;
  listed = 0;
  listed_rows = max (figures_of a).listed_rows (figures_of b).listed_rows;
  listed_runs = max (figures_of a).listed_runs (figures_of b).listed_runs;
}
