use Rattle.std.proofs.Common.{◌≡◌, length}
use Rattle.cla_group_bench.proofs.input.multiples.Given as goal

abbrev pub invariant-loop-n : goal.invariant-loop-n
invariant-loop-n l = length l.numbers.items ≡ l.n
