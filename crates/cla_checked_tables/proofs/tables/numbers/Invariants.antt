use Rattle.std.proofs.Common.{◌≡◌, length}
use Rattle.cla_checked_tables.proofs.tables.numbers.Given as goal

abbrev pub invariant-loop-v : goal.invariant-loop-v
invariant-loop-v l = length l.made.items ≡ l.v-index
