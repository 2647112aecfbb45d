use Rattle.std.proofs.Common.{◌≡◌, ◌<◌, ◌+◌, ℕ}
use Rattle.cla_layout.specs.Groups.{code_of}
use Rattle.cla_codes.proofs.byte_codes.ByteCodes.read.Given as goal

-- the places before place i have their codes
abbrev pub invariant-loop-i : goal.invariant-loop-i
invariant-loop-i g l = (j : ℕ) → j < l.i → code_of l.into j ≡ code_of l.self (l.first + j)
