use Rattle.std.proofs.Common.{◌<◌, length, ℕ, get_or, ap, ◌∙◌, arith}
use Rattle.cla_numbering.specs.Tables.{place_at}
use Rattle.cla_numbering.proofs.TableLemmas.{numbered_next, numbered_whole, places-drop, places-none, next-le}
use Rattle.cla_numbering.proofs.TableLemmas.{length-table_put, place_within, codes-of_places, firsts-of_places}
use Rattle.cla_numbering.proofs.table.number_by_table.Goals as goal

pub loop-i-preserved : goal.loop-i-preserved
loop-i-preserved c =
    let a = c.args.a.now in
    let b = c.args.b.now in
    let i = c.loop-i.i in
    let p = place_at a b c.args.wide i in
    let here = c.loop-i-test.true in
    let rows = c.requires.rows in
    let inside =
    place_within (get_or a i 0) (get_or b i 0) c.args.tall c.args.wide (c.requires.first i here)
    (c.requires.second i (omega (arith, rows, here))) in
    let size = c.loop-i.invariant.size in
    let few = c.loop-i.invariant.few in
    let most = c.requires.few in
    let step = next-le c.loop-i.table.items c.loop-i.distinct p in
    record {
      numbered =
          numbered_next c.loop-i.table.items c.loop-i.codes.items c.number_place.new.table.items c.push.new.self.items
          c.loop-i.distinct c.number_place.new.next c.number_place.result p _ _ _
          c.loop-i.invariant.numbered (places-drop a b c.args.wide (length a) i here) (omega (arith, inside, size))
          (omega (arith, few, here, most))
          c.number_place.ensures.code c.number_place.ensures.table c.number_place.ensures.next
          c.in_ok-push.ensures.items;
      few = omega (arith, c.number_place.ensures.next, step, few);
      size = ap length c.number_place.ensures.table ∙ length-table_put c.loop-i.table.items c.loop-i.distinct p ∙ size;
    }

pub returns : goal.returns
returns c =
    let a = c.args.a.now in
    let b = c.args.b.now in
    let rows = c.requires.rows in
    let within = λ (i : ℕ) (h : i < length a). c.requires.second i (omega (arith, rows, h)) in
    let whole =
    numbered_whole c.loop-i.table.items c.loop-i.codes.items c.loop-i.distinct _ _
    (places-none a b c.args.wide (length a) c.loop-i.i (omega (arith, c.loop-i-test.false)))
    c.loop-i.invariant.numbered in
    record {
      codes = whole.0 ∙ codes-of_places a b c.args.wide (length a) within;
      distinct = whole.1 ∙ firsts-of_places a b c.args.wide (length a) within;
    }
