use Rattle.std.proofs.Common.{ap, ◌∙◌}
use Rattle.cla_table.proofs.KeptLaws.{value_or_zero, found}
use Rattle.cla_table.proofs.few.sum_at.Goals as goal

pub returns-in-Some-clause-sum : goal.returns-in-Some-clause-sum
returns-in-Some-clause-sum g c = c.wide.ensures ∙ ap (value_or_zero g.N.Number.value) c.in-Some.ensures.value
    ∙ found g.N.Number.value c.args.sums.now.entries c.args.place

pub returns-in-None-clause-sum : goal.returns-in-None-clause-sum
returns-in-None-clause-sum g c = c.zero.ensures ∙ ap (value_or_zero g.N.Number.value) c.in-None.ensures.value
    ∙ found g.N.Number.value c.args.sums.now.entries c.args.place
