use Rattle.std.proofs.Common.{◌≡◌, ◌++◌, ◌≤◌, [], drop, length}
use Rattle.cla_grouping.specs.Numbering.{codes_from, firsts_from}
use Rattle.cla_numbering.proofs.entries.number_by_map.Given as goal

-- the codes so far and those of the items that are left are all codes
abbrev pub invariant-loop-item : goal.invariant-loop-item
invariant-loop-item g l = let eq = g.N.PartialEq.eq in record {
  codes : l.codes.items ++ codes_from eq l.seen.keys (drop l.item-index l.items) ≡ codes_from eq [] l.items;
  firsts : firsts_from eq l.seen.keys (drop l.item-index l.items) ≡ firsts_from eq [] l.items;
  few : length l.seen.keys ≤ l.item-index;
}
