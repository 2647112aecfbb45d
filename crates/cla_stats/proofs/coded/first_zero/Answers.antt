use Rattle.std.proofs.Common.{map, ap, sym, ◌∙◌, arith, inl, inr}
use Rattle.std.proofs.lemmas.Bool.{cases_eq}
use Rattle.cla_stats.specs.Coded.{is_zero_at}
use Rattle.cla_stats.proofs.Columns.{entry-zero}
use Rattle.cla_stats.proofs.Firsts.{found_at, found_none}
use Rattle.cla_stats.proofs.coded.first_zero.Goals as goal

pub returns-then-is_zero : goal.returns-then-is_zero
returns-then-is_zero g c =
    let value = g.N.Number.value in
    let items = c.args.items.now in
    let i = c.loop-i.i in
    let test = entry-zero value items i c.index-items-i.result (omega (arith, c.loop-i-test.true, c.requires))
    c.index-items-i.is in
    found_at (is_zero_at (map value items)) c.args.codes.now i c.loop-i-test.true c.loop-i.invariant.before
    (test ∙ sym c.is_zero.ensures ∙ c.if-is_zero.true)

pub loop-i-preserved : goal.loop-i-preserved
loop-i-preserved g c =
    let value = g.N.Number.value in
    let items = c.args.items.now in
    let i = c.loop-i.i in
    let test = entry-zero value items i c.index-items-i.result (omega (arith, c.loop-i-test.true, c.requires))
    c.index-items-i.is in
    record {
      before = λ j there. elim (cases_eq j i) [
        | inl same ↦ ap (is_zero_at (map value items)) same ∙ test ∙ sym c.is_zero.ensures ∙ c.if-is_zero.false
        | inr other ↦ c.loop-i.invariant.before j (omega (arith, there, other))
      ];
    }

pub returns : goal.returns
returns g c = found_none (is_zero_at (map g.N.Number.value c.args.items.now)) c.args.codes.now
    (λ j there. c.loop-i.invariant.before j (omega (arith, there, c.loop-i-test.false)))
