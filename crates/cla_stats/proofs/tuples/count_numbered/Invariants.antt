use Rattle.std.proofs.Common.{◌≡◌, ◌+◌, ◌≤◌, length}
use Rattle.cla_spec.specs.Matrix.{most_cells}
use Rattle.cla_numbering.specs.Together.{AreNumberedTo}
use Rattle.cla_stats.specs.Coded.{tuples_of_each}
use Rattle.cla_stats.proofs.tuples.count_numbered.Given as goal

-- the tuples of the columns so far are there, and the others are left
abbrev pub invariant-loop-column : goal.invariant-loop-column
invariant-loop-column g l = let done = length l.each.items in record {
  tuples : l.each.items ≡ tuples_of_each l.m l.first done;
  left : done + length l.column-iterator.rest.items ≡ length l.fn.columns.items;
  numbered : AreNumberedTo l.m (l.first + done) (λ _. l.m.rows) l.column-iterator.rest.items;
  few : l.m.rows ≤ most_cells;
}
