-- How large a group can be.
use Rattle.std.proofs.Common.{ℕ, ℤ, ◌≤◌, List, length, arith}
use Rattle.std.proofs.Math.Nat.{mul-le-mul_left, mul-le-mul_right}
use Rattle.cla_spec.specs.Matrix.{most_cells}
use Rattle.cla_layout.specs.Groups.{IsGroup}

pub rows_few : (bits width : ℕ) (codes : List ℕ) (tuples : List (List ℤ)) → IsGroup bits width codes tuples →
    length codes ≤ most_cells
rows_few bits width codes tuples is =
    omega (arith, is.few_cells, mul-le-mul_left {m = 1} {n = width} (length codes) is.a_column)

pub width_few : (bits width : ℕ) (codes : List ℕ) (tuples : List (List ℤ)) → IsGroup bits width codes tuples →
    width ≤ most_cells
width_few bits width codes tuples is =
    omega (arith, is.few_cells, mul-le-mul_right {m = 1} {n = length codes} width is.a_row)
