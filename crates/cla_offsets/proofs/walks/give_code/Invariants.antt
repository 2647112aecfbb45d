use Rattle.std.proofs.Common.{◌≡◌, ◌<◌, ℕ, length, take}
use Rattle.cla_layout.specs.Groups.{code_of}
use Rattle.cla_offsets.specs.Walks.{code_given}
use Rattle.cla_offsets.proofs.walks.give_code.Given as goal

-- the places so far have the code
abbrev pub invariant-loop-place : goal.invariant-loop-place
invariant-loop-place l = record {
  given : (j : ℕ) → j < length l.codes → code_of l.codes j ≡ code_given l.code (take l.place-index l.places) l.fn.codes
      j;
}
