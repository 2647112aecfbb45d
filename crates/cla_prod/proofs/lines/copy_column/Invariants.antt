use Rattle.std.proofs.Common.{◌≡◌, ◌<◌, ℕ, map}
use Rattle.cla_spec.specs.Matrix.{entry}
use Rattle.cla_layout.specs.Groups.{at}
use Rattle.cla_prod.proofs.lines.copy_column.Given as goal

-- the rows before i
abbrev pub invariant-loop-i : goal.invariant-loop-i
invariant-loop-i g l = (r : ℕ) → r < l.i → at (map g.N.Number.value l.column) r ≡ entry l.m r l.j
