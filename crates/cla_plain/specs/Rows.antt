-- Values that stand row by row.
use Rattle.std.specs.Prelude.{◌≡◌, ℕ, ◌%◌, ◌≤◌, List, length}
use Rattle.cla_spec.specs.Matrix.{most_cells}

-- these values are whole rows of this width, a row and a column at least, and few enough cells
pub record AreRows {X : Type 0} (width : ℕ) (values : List X) : Type 0 where
  pub a_column : 1 ≤ width
  pub a_value : 1 ≤ length values
  pub few : length values ≤ most_cells
  pub whole : length values % width ≡ 0
