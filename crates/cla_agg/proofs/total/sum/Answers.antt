use Rattle.std.proofs.Common.{ℤ, subst, ◌∙◌}
use Rattle.cla_num.specs.Fault.{AnswersNumber}
use Rattle.cla_agg.proofs.PartSums.{sum_turned}
use Rattle.cla_agg.proofs.total.sum.Goals as goal

pub returns-clause-sum : goal.returns-clause-sum
returns-clause-sum g c =
    let m = c.args.m.now in
    subst (λ (z : ℤ). AnswersNumber g.N.Number.BITS g.N.Number.value z c.number_of.result)
    (c.base_sum.ensures.sum ∙ sum_turned g.G.Group.codes g.G.Group.dictionary m.rows m.cols m.flipped m.parts)
    c.number_of.ensures
