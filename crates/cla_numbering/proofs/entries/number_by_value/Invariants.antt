use Rattle.std.proofs.Common.{◌≡◌, ◌≤◌, map, drop, length}
use Rattle.cla_numbering.specs.Columns.{place_in}
use Rattle.cla_numbering.proofs.TableLemmas.{IsNumbered}
use Rattle.cla_numbering.proofs.entries.number_by_value.Given as goal

-- the entries so far are numbered
abbrev pub invariant-loop-item : goal.invariant-loop-item
invariant-loop-item g l = let places = map (λ x. place_in (g.N.Number.value x)) l.items in record {
  numbered : IsNumbered l.table.items l.codes.items l.distinct (drop l.item-index places) places;
  few : l.distinct ≤ l.item-index;
  size : length l.table.items ≡ l.places;
}
