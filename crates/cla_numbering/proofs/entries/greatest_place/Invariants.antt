use Rattle.std.proofs.Common.{◌<◌, ◌≤◌, ℕ}
use Rattle.cla_numbering.specs.Columns.{place_at_row}
use Rattle.cla_numbering.proofs.entries.greatest_place.Given as goal

-- no place of the entries so far is greater
abbrev pub invariant-loop-item : goal.invariant-loop-item
invariant-loop-item g l = record {
  least : (i : ℕ) → i < l.item-index → place_at_row g.N.Number.value l.items i ≤ l.greatest;
}
