use Rattle.std.proofs.Common.{◌≡◌, ℕ, List, length}
use Rattle.cla_offsets.specs.RowLists.{AreRowLists}
use Rattle.cla_offsets.proofs.ListCounts.{AreCountedTo}
use Rattle.cla_offsets.proofs.row_lists.counted_by_lists.Given as goal

-- the codes before code k are counted, but for the rest
abbrev pub invariant-loop-k : goal.invariant-loop-k
invariant-loop-k l = record {
  a_count_each : length l.counts.items ≡ l.k;
  a_row_each : length l.first_rows.items ≡ l.k;
  counted : (codes : List ℕ) →
      AreRowLists codes l.rows l.tuples l.rest l.first_unlisted l.lists.starts.items l.lists.places.items →
      AreCountedTo l.k codes l.rest l.counts.items l.first_rows.items;
}
