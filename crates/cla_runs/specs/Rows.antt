-- What contracts see of rows that are kept as runs.
use Rattle.std.specs.Prelude.{ℕ, ◌<◌, ◌≤◌, List, length, Option, Some, None, nat_lt, if◌then◌else◌}
use Rattle.cla_spec.specs.Matrix.{most_cells}
use Rattle.cla_layout.specs.Groups.{code_of}
use Rattle.cla_rows.specs.Counted.{AreCounted}
use Rattle.cla_rows.specs.declared.row_counts.Occurrences.{Occurrences}
use Rattle.cla_rows.specs.RunBounds.{codes_in_runs}
use Rattle.cla_runs.specs.RunLists.{AreRunsIn}
use Rattle.cla_runs.specs.declared.run_list.RunList.{RunList}

-- the code of each row, how many codes there are, and the one that has no runs; if it is no code, each row is in a run
pub record RowsOf : Type 0 where
  pub codes : List ℕ
  pub tuples : ℕ
  pub rest : ℕ

-- the rows that have these runs
abbrev pub rows_in_runs : ℕ → ℕ → RunList → RowsOf
rows_in_runs tuples rest runs = record {
  codes = codes_in_runs rest runs.begins.items runs.ends.items runs.keys.items;
  tuples = tuples;
  rest = rest;
}

-- rows and their runs
pub record AreRowsInRuns (rows : RowsOf) (kept : RunList) : Type 0 where
  pub few : length rows.codes ≤ most_cells
  pub runs : AreRunsIn kept (length rows.codes) rows.codes rows.rest
  pub in_tuples : (i : ℕ) → i < length rows.codes → code_of rows.codes i < rows.tuples

-- what is kept of rows: their runs, and how many have each code, and which is the first
pub record AreKept (rows : RowsOf) (kept : RunList) (counts : Occurrences) : Type 0 where
  pub few : length rows.codes ≤ most_cells
  pub runs : AreRunsIn kept (length rows.codes) rows.codes rows.rest
  pub in_tuples : (i : ℕ) → i < length rows.codes → code_of rows.codes i < rows.tuples
  pub counted : AreCounted rows.codes rows.tuples counts.counts.items counts.first_rows.items

-- the code that no run names, if it is one
abbrev pub rest_in : RowsOf → Option ℕ
rest_in rows = if nat_lt rows.rest rows.tuples then Some rows.rest else None
