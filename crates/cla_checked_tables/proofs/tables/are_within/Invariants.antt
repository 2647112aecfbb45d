use Rattle.std.proofs.Common.{◌<◌, ◌≤◌, ℕ}
use Rattle.cla_layout.specs.Groups.{code_of}
use Rattle.cla_checked_tables.proofs.tables.are_within.Given as goal

-- the items before this one are within
abbrev pub invariant-loop-item : goal.invariant-loop-item
invariant-loop-item l = (i : ℕ) → i < l.item-index → (l.least ≤ code_of l.items i) × (code_of l.items i < l.end)
