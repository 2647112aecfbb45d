use Rattle.std.proofs.Common.{◌<◌, ℕ}
use Rattle.cla_layout.specs.Layouts.{column_at}
use Rattle.cla_prod.proofs.gathers.first_from.Given as goal

-- the columns so far are before `from`
abbrev pub invariant-loop-c : goal.invariant-loop-c
invariant-loop-c l = (d : ℕ) → d < l.c → column_at l.columns d < l.from
