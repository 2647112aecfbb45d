use Rattle.std.proofs.Common.{◌≡◌, ◌+◌, ◌-◌, ◌≤◌, length}
use Rattle.cla_spec.specs.Matrix.{most_cells}
use Rattle.cla_numbering.specs.Columns.{AreGathered}
use Rattle.cla_stats.specs.Coded.{tuples_of_each}
use Rattle.cla_stats.proofs.tuples.count_gathered.Given as goal

-- the tuples of the columns so far are there, and the entries of the others are left
abbrev pub invariant-loop-items : goal.invariant-loop-items
invariant-loop-items g l = let done = length l.each.items in record {
  tuples : l.each.items ≡ tuples_of_each l.m l.first done;
  left : done + length l.items-iterator.rest.items ≡ l.past - l.first;
  entries : AreGathered g.N.Number.value l.m (l.first + done) (λ _. l.m.rows) l.items-iterator.rest.items;
  few : l.m.rows ≤ most_cells;
}
