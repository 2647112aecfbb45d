-- What a step of a chain makes of an entry.
use Rattle.std.specs.Prelude.{ℕ, ℤ, List, [], ◌∷◌, Option, Some, ◌*ℤ◌, neg_ℤ}
use Rattle.cla_num.specs.Cells.{cell_value}
use Rattle.cla_num.specs.declared.cell_op.CellOp.{CellOp}
use Rattle.cla_layout.specs.Groups.{at}
use Rattle.cla_meaning.specs.Chains.{StepValue}
use Rattle.cla_map.specs.declared.step.Step.{Step}
use Rattle.cla_map.specs.declared.step.Step.TheVariants.{Right, Left, Neg, Square}

abbrev pub step_cell : {N : Type 0} → (N → ℤ) → Step N → ℤ → Option ℤ
step_cell value (Right op scalar) z = cell_value op z (value scalar)
step_cell value (Left op scalar) z = cell_value op (value scalar) z
step_cell value Neg z = Some (neg_ℤ z)
step_cell value Square z = Some (z *ℤ z)

-- the one step of column j, whose right operand is the row's number there
abbrev pub row_steps : CellOp → List ℤ → ℕ → List StepValue
row_steps op row j = (λ z. cell_value op z (at row j)) ∷ []
