use Rattle.std.proofs.Common.{◌<◌, ℕ}
use Rattle.cla_layout.specs.Groups.{code_of}
use Rattle.cla_group_bench.proofs.input.are_some.Given as goal

-- the counts before this one are above 0
abbrev pub invariant-loop-count : goal.invariant-loop-count
invariant-loop-count l = (k : ℕ) → k < l.count-index → 0 < code_of l.counts k
