use Rattle.std.proofs.Common.{◌≤◌}
use Rattle.cla_table.proofs.grid.Grid.new.Given as goal

abbrev pub invariant-loop-shift : goal.invariant-loop-shift
invariant-loop-shift l = l.shift ≤ 8

abbrev pub decreases-loop-shift : goal.decreases-loop-shift
decreases-loop-shift l = l.shift
