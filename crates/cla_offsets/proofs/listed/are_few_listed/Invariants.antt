use Rattle.std.proofs.Common.{◌≤◌}
use Rattle.cla_offsets.proofs.listed.are_few_listed.Given as goal

abbrev pub invariant-loop-i : goal.invariant-loop-i
invariant-loop-i l = record { within : l.unlisted ≤ l.i }
