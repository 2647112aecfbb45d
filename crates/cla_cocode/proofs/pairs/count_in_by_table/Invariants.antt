use Rattle.std.proofs.Common.{◌≡◌, ◌*◌, ◌≤◌, drop, length, map}
use Rattle.cla_numbering.specs.Tables.{place_at}
use Rattle.cla_cocode.proofs.Marks.{AreMarked}
use Rattle.cla_cocode.proofs.pairs.count_in_by_table.Given as goal

-- the pairs so far are marked
abbrev pub invariant-loop-row : goal.invariant-loop-row
invariant-loop-row l = let places = map (place_at l.a l.b l.wide) l.rows in record {
  marked : AreMarked l.met.items l.distinct (drop l.row-index places) places;
  few : l.distinct ≤ l.row-index;
  size : length l.met.items ≡ l.tall * l.wide;
}
