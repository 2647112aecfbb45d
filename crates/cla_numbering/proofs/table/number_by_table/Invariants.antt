use Rattle.std.proofs.Common.{◌≡◌, ◌*◌, ◌≤◌, drop, length}
use Rattle.cla_numbering.specs.Tables.{places_of}
use Rattle.cla_numbering.proofs.TableLemmas.{IsNumbered}
use Rattle.cla_numbering.proofs.table.number_by_table.Given as goal

abbrev pub invariant-loop-i : goal.invariant-loop-i
invariant-loop-i l = let places = places_of l.a l.b l.wide in record {
  numbered : IsNumbered l.table.items l.codes.items l.distinct (drop l.i places) places;
  few : l.distinct ≤ l.i;
  size : length l.table.items ≡ l.tall * l.wide;
}
