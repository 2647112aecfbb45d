-- Tables, as contracts see them: the groups of a base, and whether the table is the base's transpose.
use Rattle.std.specs.Prelude.{ℕ, ℤ, List, Bool, if◌then◌else◌}
use Rattle.cla_spec.specs.Matrix.{Matrix}
use Rattle.cla_coded.specs.declared.part.Part.{Part}
use Rattle.cla_layout.specs.Layouts.{Layout, layout_with, matrix_as, entry_as}
use Rattle.cla_coded.specs.Parts.{parts_of}

-- a table: the rows, columns and parts of its base, and whether it is the base's transpose
pub record TableOf (G : Type 0) : Type 0 where
  pub rows : ℕ
  pub cols : ℕ
  pub flipped : Bool
  pub parts : List (Part G)

-- the layout of the base
abbrev pub layout_of : {G : Type 0} → (G → List ℕ) → (G → List (List ℤ)) → TableOf G → Layout
layout_of codes dictionary table = layout_with table.rows table.cols (parts_of codes dictionary table.parts)

abbrev pub rows_of_table : {G : Type 0} → TableOf G → ℕ
rows_of_table table = if table.flipped then table.cols else table.rows

abbrev pub cols_of_table : {G : Type 0} → TableOf G → ℕ
cols_of_table table = if table.flipped then table.rows else table.cols

-- the matrix that a table stands for
abbrev pub matrix_of : {G : Type 0} → (G → List ℕ) → (G → List (List ℤ)) → TableOf G → Matrix
matrix_of codes dictionary table = matrix_as table.flipped (layout_of codes dictionary table)

-- its entry in row i and column j
abbrev pub table_entry : {G : Type 0} → (G → List ℕ) → (G → List (List ℤ)) → TableOf G → ℕ → ℕ → ℤ
table_entry codes dictionary table i j = entry_as table.flipped (layout_of codes dictionary table) i j
