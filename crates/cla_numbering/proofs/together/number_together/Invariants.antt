use Rattle.std.proofs.Common.{◌≡◌, ◌-◌, length}
use Rattle.cla_numbering.specs.Together.{AreNumberedTo}
use Rattle.cla_numbering.proofs.together.number_together.Given as goal

-- the rows so far are numbered
abbrev pub invariant-loop-i : goal.invariant-loop-i
invariant-loop-i g l = record {
  count : length l.columns.items ≡ l.past - l.first;
  rows : AreNumberedTo l.m l.first (λ _. l.i) l.columns.items;
}
