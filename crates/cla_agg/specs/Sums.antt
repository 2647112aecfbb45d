-- Sums over the parts of a layout.
use Rattle.std.specs.Prelude.{ℕ, ℤ, ◌+◌, ◌^◌, length}
use Rattle.cla_spec.specs.Matrix.{sum_of_entries}
use Rattle.cla_layout.specs.Groups.{cell_of}
use Rattle.cla_layout.specs.Layouts.{LayoutPart}

-- the sum of a part's cells, in so many rows
abbrev pub cells_sum : ℕ → LayoutPart → ℤ
cells_sum rows part = sum_of_entries rows (length part.columns) (cell_of part.codes part.tuples)

-- the counts with which a group may begin
abbrev pub group_bound : ℕ
group_bound = 2 ^ 127 + 2 ^ 126 + 2 ^ 26

-- and a column of some of its tuples
abbrev pub column_bound : ℕ
column_bound = 2 ^ 127 + 2 ^ 126 + 2 ^ 28
