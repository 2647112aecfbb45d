use Rattle.std.proofs.Common.{◌≡◌, ◌*◌, ◌≤◌, drop, length}
use Rattle.cla_numbering.specs.Tables.{places_of}
use Rattle.cla_cocode.proofs.Marks.{AreMarked}
use Rattle.cla_cocode.proofs.pairs.count_by_table.Given as goal

-- the pairs so far are marked
abbrev pub invariant-loop-i : goal.invariant-loop-i
invariant-loop-i l = let places = places_of l.a l.b l.wide in record {
  marked : AreMarked l.met.items l.distinct (drop l.i places) places;
  few : l.distinct ≤ l.i;
  size : length l.met.items ≡ l.tall * l.wide;
}
