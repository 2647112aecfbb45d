use Rattle.std.proofs.Common.{◌+◌, length, true, ℕ, ap, ◌∙◌, arith, map}
use Rattle.std.proofs.lemmas.List.{length-set, drop_all, length-map}
use Rattle.cla_layout.specs.Groups.{code_of}
use Rattle.cla_numbering.specs.Tables.{place_at}
use Rattle.cla_numbering.proofs.TableLemmas.{place_within}
use Rattle.cla_cocode.proofs.Marks.{marked-next, marked-most, marked-whole}
use Rattle.cla_cocode.proofs.Few.{mapped-drop}
use Rattle.cla_cocode.proofs.pairs.count_in_by_table.Goals as goal

pub returns-then-distinct-most : goal.returns-then-distinct-most
returns-then-distinct-most c =
    let a = c.args.a.now in
    let b = c.args.b.now in
    let rows = c.args.rows.now in
    let wide = c.args.wide in
    let k = c.loop-row.row-index in
    let i = code_of rows k in
    let here = c.loop-row-test.true in
    let row = c.requires.within k here in
    let second = c.requires.second i (omega (arith, c.requires.rows, row)) in
    let inside = place_within (code_of a i) (code_of b i) c.args.tall wide (c.requires.first i row) second in
    let place : ℕ → ℕ = place_at a b wide in
    let s = marked-next c.loop-row.met.items c.meet-distinct.new.met.items c.loop-row.distinct
    (c.loop-row.distinct + c.meet-distinct.result) (place i) _ _ _ c.loop-row.invariant.marked
    (mapped-drop place rows k here) (omega (arith, inside, c.loop-row.invariant.size))
    c.meet-distinct.ensures.marks (ap (λ n. c.loop-row.distinct + n) c.meet-distinct.ensures.fresh) in
    omega (arith, marked-most _ _ _ _ s, c.if-distinct-most.true)

pub loop-row-preserved : goal.loop-row-preserved
loop-row-preserved c =
    let a = c.args.a.now in
    let b = c.args.b.now in
    let rows = c.args.rows.now in
    let wide = c.args.wide in
    let k = c.loop-row.row-index in
    let i = code_of rows k in
    let here = c.loop-row-test.true in
    let row = c.requires.within k here in
    let second = c.requires.second i (omega (arith, c.requires.rows, row)) in
    let inside = place_within (code_of a i) (code_of b i) c.args.tall wide (c.requires.first i row) second in
    let place : ℕ → ℕ = place_at a b wide in
    record {
      marked = marked-next c.loop-row.met.items c.meet-distinct.new.met.items c.loop-row.distinct
          (c.loop-row.distinct + c.meet-distinct.result) (place i) _ _ _ c.loop-row.invariant.marked
          (mapped-drop place rows k here) (omega (arith, inside, c.loop-row.invariant.size))
          c.meet-distinct.ensures.marks (ap (λ n. c.loop-row.distinct + n) c.meet-distinct.ensures.fresh);
      few = omega (arith, c.meet-distinct.ensures.small, c.loop-row.invariant.few);
      size = ap length c.meet-distinct.ensures.marks ∙ length-set c.loop-row.met.items (place i) true
          ∙ c.loop-row.invariant.size;
    }

pub returns : goal.returns
returns c =
    let rows = c.args.rows.now in
    let place : ℕ → ℕ = place_at c.args.a.now c.args.b.now c.args.wide in
    let none = drop_all c.loop-row.row-index (map place rows)
    (omega (arith, c.loop-row-test.false, length-map rows place)) in
    marked-whole c.loop-row.met.items c.loop-row.distinct _ _ none c.loop-row.invariant.marked
