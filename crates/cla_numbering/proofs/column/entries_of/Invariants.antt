use Rattle.std.proofs.Common.{◌≡◌, map, length}
use Rattle.std.specs.List.{range_with_len}
use Rattle.cla_spec.specs.Matrix.{entry}
use Rattle.cla_numbering.proofs.column.entries_of.Given as goal

abbrev pub invariant-loop-i : goal.invariant-loop-i
invariant-loop-i g l = record {
  entries : map g.N.Number.value l.items.items ≡ map (λ i. entry l.m i l.column) (range_with_len 0 l.i);
  count : length l.items.items ≡ l.i;
}
