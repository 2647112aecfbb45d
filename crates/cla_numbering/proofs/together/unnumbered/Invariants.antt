use Rattle.std.proofs.Common.{◌≡◌, [], length, All}
use Rattle.cla_numbering.specs.Together.{IsNumberedTo}
use Rattle.cla_numbering.proofs.together.unnumbered.Given as goal

-- the columns so far have no rows
abbrev pub invariant-loop : goal.invariant-loop
invariant-loop l = record {
  count : length l.columns.items ≡ l.counter;
  none : All (IsNumberedTo []) l.columns.items;
}
