use Rattle.std.proofs.Common.{◌≡◌, ◌≤◌, [], drop, length, nat_eq}
use Rattle.cla_grouping.specs.Numbering.{firsts_from}
use Rattle.cla_numbering.specs.Tables.{places_of}
use Rattle.cla_cocode.proofs.pairs.count_by_map.Given as goal

-- the pairs so far are kept
abbrev pub invariant-loop-i : goal.invariant-loop-i
invariant-loop-i l = let places = places_of l.a l.b l.wide in record {
  firsts : firsts_from nat_eq l.seen.keys (drop l.i places) ≡ firsts_from nat_eq [] places;
  few : length l.seen.keys ≤ l.i;
}
