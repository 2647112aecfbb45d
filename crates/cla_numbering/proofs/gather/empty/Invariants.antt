use Rattle.std.proofs.Common.{◌≡◌, [], length, All}
use Rattle.cla_numbering.proofs.gather.empty.Given as goal

-- the columns so far have no entries
abbrev pub invariant-loop : goal.invariant-loop
invariant-loop g l = record {
  count : length l.columns.items ≡ l.counter;
  none : All (λ column. column.items ≡ []) l.columns.items;
}
