use Rattle.cla_coded.specs.Parts.{parts_of}
use Rattle.cla_prod.proofs.ColumnsSet.{values_from_all}
use Rattle.cla_prod.proofs.lines.times_line.Goals as goal

pub returns-then-turned-clause-counts : goal.returns-then-turned-clause-counts
returns-then-turned-clause-counts g c =
    rw (values_from_all (parts_of g.G.Group.codes g.G.Group.dictionary c.args.parts.now)) at c.times_base.ensures.counts
