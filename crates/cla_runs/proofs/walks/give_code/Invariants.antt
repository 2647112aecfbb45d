use Rattle.std.proofs.Common.{◌≡◌, ◌<◌, ◌≤◌, ℕ}
use Rattle.cla_layout.specs.Groups.{code_of}
use Rattle.cla_runs.proofs.walks.give_code.Given as goal

-- the rows before row i have the code
abbrev pub invariant-loop-i : goal.invariant-loop-i
invariant-loop-i l = record {
  given : (j : ℕ) → l.a ≤ j → j < l.i → code_of l.into j ≡ l.code;
  before : (j : ℕ) → j < l.a → code_of l.into j ≡ code_of l.fn.into j;
  left : (j : ℕ) → l.i ≤ j → code_of l.into j ≡ code_of l.fn.into j;
}
