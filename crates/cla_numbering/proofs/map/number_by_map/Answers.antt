use Rattle.std.proofs.Common.{◌+◌, ◌<◌, ℕ, length, drop, ap, ◌∙◌, arith}
use Rattle.cla_numbering.specs.Tables.{places_of, place_at}
use Rattle.cla_numbering.proofs.TableLemmas.{places-drop, places-none, codes-of_places, firsts-of_places}
use Rattle.cla_numbering.proofs.MapLemmas.{codes_next, firsts_next, codes_whole, firsts_whole, with_item-few}
use Rattle.cla_numbering.proofs.map.number_by_map.Goals as goal

pub loop-i-preserved : goal.loop-i-preserved
loop-i-preserved c =
    let a = c.args.a.now in
    let b = c.args.b.now in
    let i = c.loop-i.i in
    let p = place_at a b c.args.wide i in
    let all = places_of a b c.args.wide in
    let next = places-drop a b c.args.wide (length a) i c.loop-i-test.true in
    let put = c.in_ok-code.ensures.keys in
    record {
      codes =
          codes_next c.loop-i.codes.items c.push.new.self.items c.loop-i.seen.keys c.insert_full.new.self.keys
          c.in_ok-code.code p _ (drop (i + 1) all) all
          c.loop-i.invariant.codes next c.in_ok-code.ensures.index put c.in_ok-push.ensures.items;
      firsts =
          firsts_next c.loop-i.seen.keys c.insert_full.new.self.keys p _
          (drop (i + 1) all) all c.loop-i.invariant.firsts next put;
      few = with_item-few c.loop-i.seen.keys c.insert_full.new.self.keys p i c.loop-i.invariant.few put;
    }

pub returns : goal.returns
returns c =
    let a = c.args.a.now in
    let b = c.args.b.now in
    let rows = c.requires.rows in
    let within = λ (i : ℕ) (h : i < length a). c.requires.second i (omega (arith, rows, h)) in
    let none = places-none a b c.args.wide (length a) c.loop-i.i (omega (arith, c.loop-i-test.false)) in
    record {
      codes =
          codes_whole c.loop-i.codes.items c.loop-i.seen.keys _
          (places_of a b c.args.wide) none c.loop-i.invariant.codes ∙ codes-of_places a b c.args.wide (length a) within;
      distinct = c.len-distinct.ensures.len
          ∙ ap length (firsts_whole c.loop-i.seen.keys _ (places_of a b c.args.wide) none c.loop-i.invariant.firsts)
          ∙ firsts-of_places a b c.args.wide (length a) within;
    }
