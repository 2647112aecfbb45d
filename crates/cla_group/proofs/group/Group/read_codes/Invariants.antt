use Rattle.std.proofs.Common.{◌≡◌, ◌<◌, ℕ}
use Rattle.cla_layout.specs.Groups.{code_of}
use Rattle.cla_group.proofs.group.Group.read_codes.Given as goal

-- the rows before i have their codes
abbrev pub invariant-loop-i : goal.invariant-loop-i
invariant-loop-i g l = (j : ℕ) → j < l.i → code_of l.into j ≡ code_of (g.Self.Group.codes l.self) j
