use Rattle.std.proofs.Common.{◌<◌, ℕ}
use Rattle.cla_layout.specs.Groups.{code_of}
use Rattle.cla_group_bench.proofs.input.are_below.Given as goal

-- the codes before this one are below
abbrev pub invariant-loop-code : goal.invariant-loop-code
invariant-loop-code l = (i : ℕ) → i < l.code-index → code_of l.codes i < l.tuples
