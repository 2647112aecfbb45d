use Rattle.std.proofs.Common.{◌+◌, subst, sym}
use Rattle.cla_layout.specs.Groups.{value_of}
use Rattle.cla_layout.specs.GroupLaws.{IsExtreme}
use Rattle.cla_agg.proofs.Extremes.{extreme_more}
use Rattle.cla_agg.proofs.extreme.first_of_tuple.Goals as goal

pub loop-c-preserved : goal.loop-c-preserved
loop-c-preserved g c =
    let f = value_of (g.G.Group.dictionary c.args.g.now) c.args.k in
    subst (IsExtreme g.O.Order.before f (c.loop-c.c + 1)) (sym c.chosen-first.ensures)
    (extreme_more g.O.Order.before g.O.Order.choice g.met.O.Order.laws f c.loop-c.c (g.N.Number.value c.loop-c.first)
    (g.N.Number.value c.value.result) c.value.ensures c.loop-c.invariant)
