use Rattle.std.proofs.Common.{◌+◌, ◌*◌}
use Rattle.cla_prod.specs.Lines.{cell_at, AreNumbers}
use Rattle.cla_prod.proofs.numbers.numbers_of_row.Given as goal

-- the cells before column j
abbrev pub invariant-loop-j : goal.invariant-loop-j
invariant-loop-j g l = AreNumbers g.N.Number.value l.fn.cols (cell_at l.fn.order l.fn.rows l.fn.cols l.cells)
    (l.fn.i * l.fn.cols + l.j) l.numbers
