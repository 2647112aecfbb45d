use Rattle.std.proofs.Common.{◌≡◌, length}
use Rattle.cla_group_tests.proofs.Smalls.{AreSmall}
use Rattle.cla_group_tests.proofs.checked.wides.Given as goal

abbrev pub invariant-loop-v : goal.invariant-loop-v
invariant-loop-v l = record {
  count : length l.made.items ≡ l.v-index;
  small : AreSmall l.made.items;
}
