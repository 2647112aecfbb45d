use Rattle.std.proofs.Common.{◌≡◌, ◌<◌, ◌≤◌, ℕ}
use Rattle.cla_layout.specs.Groups.{at}
use Rattle.cla_runs.proofs.walks.join_between.Given as goal

-- the rows before row i are joined
abbrev pub invariant-loop-i : goal.invariant-loop-i
invariant-loop-i g l = record {
  before : (j : ℕ) → j < l.a → at l.into j ≡ at l.fn.into j;
  joined : (j : ℕ) → l.a ≤ j → j < l.i → at l.into j ≡ g.J.Join.join (at l.fn.into j) l.part;
  left : (j : ℕ) → l.i ≤ j → at l.into j ≡ at l.fn.into j;
}
