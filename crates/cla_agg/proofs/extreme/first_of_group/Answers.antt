use Rattle.std.proofs.Common.{◌≡◌, ◌+◌, ℕ, length, subst, sym, arith}
use Rattle.cla_layout.specs.Groups.{value_of}
use Rattle.cla_layout.specs.Firsts.{IsExtremeEntry}
use Rattle.cla_agg.proofs.Extremes.{tuple_more}
use Rattle.cla_agg.proofs.extreme.first_of_group.Goals as goal

pub first_of_tuple-first-requires : goal.first_of_tuple-first-requires
first_of_tuple-first-requires g c =
    let laws = g.met.G.Group.laws c.args.g.now in
    omega (arith, laws.in_tuples 0 (omega (arith, laws.a_row)))

pub loop-k-preserved : goal.loop-k-preserved
loop-k-preserved g c =
    let f = value_of (g.G.Group.dictionary c.args.g.now) in
    let width = g.G.Group.columns c.args.g.now in
    subst (IsExtremeEntry g.O.Order.before (c.loop-k.k + 1) width f) (sym c.chosen-first.ensures)
    (tuple_more g.O.Order.before g.O.Order.choice g.met.O.Order.laws f width c.loop-k.k
    (g.N.Number.value c.loop-k.first) (g.N.Number.value c.first_of_tuple.result)
    c.loop-k.invariant c.first_of_tuple.ensures)

pub returns : goal.returns
returns g c =
    let tuples = g.G.Group.dictionary c.args.g.now in
    let laws = g.met.G.Group.laws c.args.g.now in
    let some = laws.in_tuples 0 (omega (arith, laws.a_row)) in
    let all : c.loop-k.k ≡ length tuples =
    omega (arith, c.loop-k-test.false, c.tuples-k-end.ensures, c.loop-k.auto.k-end, some) in
    subst (λ (n : ℕ). IsExtremeEntry g.O.Order.before n (g.G.Group.columns c.args.g.now) (value_of tuples)
    (g.N.Number.value c.loop-k.first)) all c.loop-k.invariant
