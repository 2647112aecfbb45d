use Rattle.std.proofs.Common.{◌<◌, ◌+◌, length, true, ℕ, get_or, ap, ◌∙◌, arith}
use Rattle.std.proofs.lemmas.List.{length-set}
use Rattle.cla_numbering.specs.Tables.{place_at}
use Rattle.cla_numbering.proofs.TableLemmas.{places-drop, places-none, place_within, firsts-of_places}
use Rattle.cla_cocode.proofs.Marks.{marked-next, marked-most, marked-whole}
use Rattle.cla_cocode.proofs.pairs.count_by_table.Goals as goal

pub returns-then-distinct-most : goal.returns-then-distinct-most
returns-then-distinct-most c =
    let a = c.args.a.now in
    let b = c.args.b.now in
    let wide = c.args.wide in
    let i = c.loop-i.i in
    let p = place_at a b wide i in
    let here = c.loop-i-test.true in
    let rows = c.requires.rows in
    let second = c.requires.second i (omega (arith, rows, here)) in
    let inside = place_within (get_or a i 0) (get_or b i 0) c.args.tall wide (c.requires.first i here) second in
    let s = marked-next c.loop-i.met.items c.meet-distinct.new.met.items c.loop-i.distinct
    (c.loop-i.distinct + c.meet-distinct.result) p _ _ _ c.loop-i.invariant.marked
    (places-drop a b wide (length a) i here) (omega (arith, inside, c.loop-i.invariant.size))
    c.meet-distinct.ensures.marks (ap (λ n. c.loop-i.distinct + n) c.meet-distinct.ensures.fresh) in
    let more = marked-most _ _ _ _ s in
    let same = firsts-of_places a b wide (length a) (λ i h. c.requires.second i (omega (arith, rows, h))) in
    omega (arith, more, same, c.if-distinct-most.true)

pub loop-i-preserved : goal.loop-i-preserved
loop-i-preserved c =
    let a = c.args.a.now in
    let b = c.args.b.now in
    let wide = c.args.wide in
    let i = c.loop-i.i in
    let p = place_at a b wide i in
    let here = c.loop-i-test.true in
    let rows = c.requires.rows in
    let second = c.requires.second i (omega (arith, rows, here)) in
    let inside = place_within (get_or a i 0) (get_or b i 0) c.args.tall wide (c.requires.first i here) second in
    record {
      marked = marked-next c.loop-i.met.items c.meet-distinct.new.met.items c.loop-i.distinct
          (c.loop-i.distinct + c.meet-distinct.result) p _ _ _ c.loop-i.invariant.marked
          (places-drop a b wide (length a) i here) (omega (arith, inside, c.loop-i.invariant.size))
          c.meet-distinct.ensures.marks (ap (λ n. c.loop-i.distinct + n) c.meet-distinct.ensures.fresh);
      few = omega (arith, c.meet-distinct.ensures.small, c.loop-i.invariant.few);
      size = ap length c.meet-distinct.ensures.marks ∙ length-set c.loop-i.met.items p true ∙ c.loop-i.invariant.size;
    }

pub returns : goal.returns
returns c =
    let a = c.args.a.now in
    let b = c.args.b.now in
    let wide = c.args.wide in
    let rows = c.requires.rows in
    let within = λ (i : ℕ) (h : i < length a). c.requires.second i (omega (arith, rows, h)) in
    let none = places-none a b wide (length a) c.loop-i.i (omega (arith, c.loop-i-test.false)) in
    marked-whole c.loop-i.met.items c.loop-i.distinct _ _ none c.loop-i.invariant.marked
    ∙ firsts-of_places a b wide (length a) within
