use Rattle.std.proofs.Common.{◌<◌, length, ap, ◌∙◌, arith}
use Rattle.cla_numbering.specs.Columns.{place_in}
use Rattle.cla_numbering.specs.Tables.{number_put, table_put, next_put}
use Rattle.cla_numbering.proofs.TableLemmas.{numbered_next, numbered_whole, next-le, length-table_put}
use Rattle.cla_numbering.proofs.PlaceLemmas.{codes-by_place, firsts-by_place, entry-places, entry-places-none}
use Rattle.cla_numbering.proofs.PlaceLemmas.{row-place}
use Rattle.cla_numbering.proofs.entries.number_by_value.Goals as goal

pub number_place-requires-clause-within : goal.number_place-requires-clause-within
number_place-requires-clause-within g c =
    let at = c.loop-item.item-index in
    let there = c.loop-item-test.true in
    let place = row-place g.N.Number.value c.args.items.now at c.item-item.result there c.item-item.is in
    omega (arith, c.requires.within at there, place, c.place_of.ensures, c.loop-item.invariant.size)

pub number_place-requires-clause-few : goal.number_place-requires-clause-few
number_place-requires-clause-few g c =
    omega (arith, c.loop-item.invariant.few, c.loop-item-test.true, c.requires.few)

pub loop-item-preserved : goal.loop-item-preserved
loop-item-preserved g c =
    let value = g.N.Number.value in
    let items = c.args.items.now in
    let at = c.loop-item.item-index in
    let there = c.loop-item-test.true in
    let x = c.item-item.result in
    let table = c.loop-item.table.items in
    let next = c.loop-item.distinct in
    let p = c.place_of.ensures in
    let place = row-place value items at x there c.item-item.is in
    let size = c.loop-item.invariant.size in
    let few = c.loop-item.invariant.few in
    let inside : place_in (value x) < length table = omega (arith, c.requires.within at there, place, size) in
    let step = next-le table next c.place_of.result in
    record {
      numbered = numbered_next table c.loop-item.codes.items c.number_place.new.table.items c.push.new.self.items
          next c.number_place.new.next c.number_place.result (place_in (value x)) _ _ _
          c.loop-item.invariant.numbered (entry-places value items at x there c.item-item.is) inside
          (omega (arith, few, there, c.requires.few))
          (c.number_place.ensures.code ∙ ap (number_put table next) p)
          (c.number_place.ensures.table ∙ ap (table_put table next) p)
          (c.number_place.ensures.next ∙ ap (next_put table next) p) c.in_ok-push.ensures.items;
      few = omega (arith, c.number_place.ensures.next, step, few);
      size = ap length c.number_place.ensures.table ∙ length-table_put table next c.place_of.result ∙ size;
    }

pub returns-clause-codes : goal.returns-clause-codes
returns-clause-codes g c =
    let value = g.N.Number.value in
    let items = c.args.items.now in
    let none = entry-places-none value items c.loop-item.item-index (omega (arith, c.loop-item-test.false)) in
    let whole = numbered_whole c.loop-item.table.items c.loop-item.codes.items c.loop-item.distinct _ _ none
    c.loop-item.invariant.numbered in
    whole.0 ∙ codes-by_place _ value g.N.PartialEq.eq c.requires.bits g.met.N.Number.in_range g.met.N.Number.equality
    items

pub returns-clause-distinct : goal.returns-clause-distinct
returns-clause-distinct g c =
    let value = g.N.Number.value in
    let items = c.args.items.now in
    let none = entry-places-none value items c.loop-item.item-index (omega (arith, c.loop-item-test.false)) in
    let whole = numbered_whole c.loop-item.table.items c.loop-item.codes.items c.loop-item.distinct _ _ none
    c.loop-item.invariant.numbered in
    whole.1 ∙ firsts-by_place _ value g.N.PartialEq.eq c.requires.bits g.met.N.Number.in_range g.met.N.Number.equality
    items
