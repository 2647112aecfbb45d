use Rattle.std.proofs.Common.{◌≡◌, ◌++◌, ◌≤◌, [], drop, length, nat_eq}
use Rattle.cla_grouping.specs.Numbering.{codes_from, firsts_from}
use Rattle.cla_numbering.specs.Tables.{places_of}
use Rattle.cla_numbering.proofs.map.number_by_map.Given as goal

-- the codes so far and those of the rows that are left are all codes
abbrev pub invariant-loop-i : goal.invariant-loop-i
invariant-loop-i l = let places = places_of l.a l.b l.wide in record {
  codes : l.codes.items ++ codes_from nat_eq l.seen.keys (drop l.i places) ≡ codes_from nat_eq [] places;
  firsts : firsts_from nat_eq l.seen.keys (drop l.i places) ≡ firsts_from nat_eq [] places;
  few : length l.seen.keys ≤ l.i;
}
