use Rattle.std.proofs.Common.{◌≡◌, ℕ, ◌+◌, subst, sym, arith}
use Rattle.cla_layout.specs.Groups.{value_of}
use Rattle.cla_layout.specs.GroupLaws.{IsExtreme}
use Rattle.cla_agg.proofs.Extremes.{extreme_more}
use Rattle.cla_agg.proofs.columns.chosen_in_column.Goals as goal

pub loop-k-preserved : goal.loop-k-preserved
loop-k-preserved g c =
    let f = λ (k : ℕ). value_of (g.G.Group.dictionary c.args.g.now) k c.args.c in
    subst (IsExtreme g.O.Order.before f (c.loop-k.k + 1)) (sym c.chosen-first.ensures)
    (extreme_more g.O.Order.before g.O.Order.choice g.met.O.Order.laws f c.loop-k.k (g.N.Number.value c.loop-k.first)
    (g.N.Number.value c.value.result) c.value.ensures c.loop-k.invariant)

pub returns : goal.returns
returns g c =
    let f = λ (k : ℕ). value_of (g.G.Group.dictionary c.args.g.now) k c.args.c in
    let all : c.loop-k.k ≡ c.args.end = omega (arith, c.loop-k-test.false, c.loop-k.auto.k-end, c.requires.order) in
    subst (λ (n : ℕ). IsExtreme g.O.Order.before f n (g.N.Number.value c.loop-k.first)) all c.loop-k.invariant
