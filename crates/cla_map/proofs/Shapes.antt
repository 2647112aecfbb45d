-- Places of cells.
use Rattle.std.proofs.Common.{ℕ, ◌*◌, ◌<◌, arith, inl, inr}
use Rattle.std.proofs.Math.Nat.{mul_comm}
use Rattle.std.proofs.lemmas.Bool.{cases_Bool}
use Rattle.cla_spec.proofs.Entries.{cell_within}
use Rattle.cla_map.specs.declared.shape.Shape.{Shape}
use Rattle.cla_map.specs.Stops.{place_in}

pub place_few : (shape : Shape) (i j : ℕ) → i < shape.rows → j < shape.cols
    → place_in shape i j < shape.rows * shape.cols
place_few shape i j row col = elim (cases_Bool shape.flipped) [
  | inl flipped ↦ rw flipped (omega (
    arith,
    cell_within shape.cols shape.rows j i col row,
    mul_comm shape.rows shape.cols,
  ))
  | inr plain ↦ rw plain (cell_within shape.rows shape.cols i j row col)
]
