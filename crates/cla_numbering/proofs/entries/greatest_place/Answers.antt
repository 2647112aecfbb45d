use Rattle.std.proofs.Common.{ap, arith, inl, inr}
use Rattle.std.proofs.lemmas.Bool.{cases_eq}
use Rattle.std.proofs.Math.Nat.{le-max_left, le-max_right}
use Rattle.cla_numbering.specs.Columns.{place_at_row}
use Rattle.cla_numbering.proofs.PlaceLemmas.{row-place}
use Rattle.cla_numbering.proofs.entries.greatest_place.Goals as goal

pub loop-item-preserved : goal.loop-item-preserved
loop-item-preserved g c =
    let value = g.N.Number.value in
    let items = c.args.items.now in
    let at = c.loop-item.item-index in
    let place = row-place value items at c.item-item.result c.loop-item-test.true c.item-item.is in
    let first = le-max_left c.place_of.result c.loop-item.greatest in
    let second = le-max_right c.place_of.result c.loop-item.greatest in
    record {
      least = λ i there. elim (cases_eq i at) [
        | inl same ↦ omega (
          arith,
          ap (place_at_row value items) same,
          place,
          c.place_of.ensures,
          first,
          c.max-greatest.ensures,
        )
        | inr other ↦
            let before = c.loop-item.invariant.least i (omega (arith, there, other)) in
            omega (arith, before, second, c.max-greatest.ensures)
      ];
    }
