use Rattle.std.proofs.Common.{◌<◌, ℕ}
use Rattle.cla_layout.specs.Groups.{code_of}
use Rattle.cla_checked_tables.proofs.tables.are_rising.Given as goal

-- the columns before place c rise
abbrev pub invariant-loop-c : goal.invariant-loop-c
invariant-loop-c l = (c d : ℕ) → c < d → d < l.c → code_of l.columns c < code_of l.columns d
