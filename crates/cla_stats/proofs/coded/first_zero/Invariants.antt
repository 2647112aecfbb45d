use Rattle.std.proofs.Common.{◌≡◌, ◌<◌, ℕ, map, false}
use Rattle.cla_stats.specs.Coded.{is_zero_at}
use Rattle.cla_stats.proofs.coded.first_zero.Given as goal

-- no entry before is 0
abbrev pub invariant-loop-i : goal.invariant-loop-i
invariant-loop-i g l = record {
  before : (j : ℕ) → j < l.i → is_zero_at (map g.N.Number.value l.items) j ≡ false;
}
