use Rattle.std.proofs.Common.{◌≡◌, pos, ◌+◌, ◌*◌, take, length}
use Rattle.cla_table.specs.Sums.{dense_sum, AreSame}
use Rattle.cla_table.proofs.KeptLaws.{written}
use Rattle.cla_table.proofs.sums.spread.Given as goal

-- the sums so far are written
abbrev pub invariant-loop-i : goal.invariant-loop-i
invariant-loop-i g l = record {
  count : length l.cells.items ≡ l.grid.rows * l.grid.cols;
  so_far : AreSame l.grid (dense_sum g.N.Number.value l.grid l.cells.items)
      (λ i j. written g.N.Number.value (take l.i l.sums.entries) (pos 0) (i * l.grid.cols + j));
}
