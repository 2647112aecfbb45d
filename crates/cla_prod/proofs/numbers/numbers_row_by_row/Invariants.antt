use Rattle.cla_prod.specs.declared.numbers.Order.TheVariants.{Rows}
use Rattle.cla_prod.specs.Lines.{cell_at, AreNumbers}
use Rattle.cla_prod.proofs.numbers.numbers_row_by_row.Given as goal

-- the cells before place p
abbrev pub invariant-loop-p : goal.invariant-loop-p
invariant-loop-p g l = AreNumbers g.N.Number.value l.fn.cols (cell_at Rows l.fn.rows l.fn.cols l.cells) l.p l.numbers
