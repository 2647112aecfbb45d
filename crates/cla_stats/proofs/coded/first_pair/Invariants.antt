use Rattle.std.proofs.Common.{◌≡◌, ◌<◌, ◌&&◌, ◌==◌, ℕ, false}
use Rattle.cla_layout.specs.Groups.{code_of}
use Rattle.cla_stats.proofs.coded.first_pair.Given as goal

-- no row before has both
abbrev pub invariant-loop-i : goal.invariant-loop-i
invariant-loop-i l =
    record { before : (j : ℕ) → j < l.i → (code_of l.a j == l.first && code_of l.b j == l.second) ≡ false }
