use Rattle.std.proofs.Common.{◌≡◌, ◌-◌, length}
use Rattle.cla_numbering.specs.Together.{AreNumberedTo}
use Rattle.cla_numbering.proofs.GatherLemmas.{taken_to}
use Rattle.cla_numbering.proofs.together.number_row.Given as goal

-- the columns so far have the row
abbrev pub invariant-loop-j : goal.invariant-loop-j
invariant-loop-j g l = record {
  count : length l.columns.items ≡ length l.fn.columns.items;
  rows : AreNumberedTo l.m l.first (taken_to (l.j - l.first) l.i) l.columns.items;
}
