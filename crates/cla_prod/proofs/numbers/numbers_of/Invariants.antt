use Rattle.std.proofs.Common.{◌*◌}
use Rattle.cla_prod.specs.Lines.{cell_at, AreNumbers}
use Rattle.cla_prod.proofs.numbers.numbers_of.Given as goal

-- the rows before row i
abbrev pub invariant-loop-i : goal.invariant-loop-i
invariant-loop-i g l =
    AreNumbers g.N.Number.value l.fn.cols (cell_at l.fn.order l.fn.rows l.fn.cols l.cells) (l.i * l.fn.cols)
    l.numbers
