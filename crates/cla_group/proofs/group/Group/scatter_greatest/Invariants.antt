use Rattle.std.proofs.Common.{◌≡◌, ◌<◌, ◌≤◌, ℕ}
use Rattle.std.specs.Int.{int_max}
use Rattle.cla_layout.specs.Groups.{at, code_of}
use Rattle.cla_group.proofs.group.Group.scatter_greatest.Given as goal

-- the rows before i are done, and the others are as they were
abbrev pub invariant-loop-i : goal.invariant-loop-i
invariant-loop-i g l = record {
  done : (j : ℕ) → j < l.i →
      at l.into j ≡ int_max (at l.fn.into j) (at l.parts (code_of (g.Self.Group.codes l.self) j));
  left : (j : ℕ) → l.i ≤ j → at l.into j ≡ at l.fn.into j;
}
