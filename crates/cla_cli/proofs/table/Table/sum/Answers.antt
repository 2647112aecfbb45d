use Rattle.std.proofs.Common.{ℕ, ℤ, subst, arith}
use Rattle.cla_num.specs.Fault.{AnswersNumber}
use Rattle.cla_coded.specs.AnyGroups.{any_codes, any_dictionary}
use Rattle.cla_coded.specs.Tables.{layout_of}
use Rattle.cla_meaning.specs.Counts.{HasMults}
use Rattle.cla_cli.proofs.TableLaws.{sum_is, cells_are, cells_few}
use Rattle.cla_cli.proofs.table.Table.sum.Goals as goal

pub returns-clause-sum : goal.returns-clause-sum
returns-clause-sum g c =
    let t = c.self.inside.coded in
    subst (λ (x : ℤ). AnswersNumber g.N.Number.BITS g.N.Number.value x c.sum.result)
    (sum_is t.flipped (layout_of any_codes any_dictionary t) c.args.self.now c.self.view_is) c.sum.ensures.sum

pub returns-clause-counts : goal.returns-clause-counts
returns-clause-counts g c =
    subst (λ (n : ℕ). HasMults n c.args.meter.now c.sum.new.meter)
    (cells_are g.N.Number.BITS any_codes any_dictionary c.self.inside.coded c.args.self.now c.self.inside.is_loose
    c.self.inside.is_whole c.self.view_is)
    c.sum.ensures.counts

pub returns-clause-few : goal.returns-clause-few
returns-clause-few g c =
    let few = cells_few g.N.Number.BITS any_codes any_dictionary c.self.inside.coded c.self.inside.is_loose
    c.self.inside.is_whole in
    rw c.sum.ensures.counts (record { mults = omega (arith, few); maps = omega arith })
