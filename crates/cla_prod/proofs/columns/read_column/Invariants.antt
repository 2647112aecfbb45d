use Rattle.std.proofs.Common.{◌≡◌, ◌<◌, ℕ, map}
use Rattle.cla_layout.specs.Groups.{at, cell_of}
use Rattle.cla_prod.proofs.columns.read_column.Given as goal

-- the rows before i
abbrev pub invariant-loop-i : goal.invariant-loop-i
invariant-loop-i g l = (r : ℕ) → r < l.i → at (map g.N.Number.value l.column) r
    ≡ cell_of (g.G.Group.codes l.group) (g.G.Group.dictionary l.group) r l.fn.c
