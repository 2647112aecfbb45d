use Rattle.std.proofs.Common.{◌≡◌, ◌<◌, ℕ}
use Rattle.cla_layout.specs.Groups.{code_of}
use Rattle.cla_offsets.proofs.walks.fill_codes.Given as goal

-- the places so far have the code
abbrev pub invariant-loop-place : goal.invariant-loop-place
invariant-loop-place l = record { given : (j : ℕ) → j < l.place-index → code_of l.codes j ≡ l.code }
