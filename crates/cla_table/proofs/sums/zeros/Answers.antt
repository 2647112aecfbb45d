use Rattle.cla_table.proofs.SumLaws.{filled_up}
use Rattle.cla_table.proofs.sums.zeros.Goals as goal

pub returns-clause-zero : goal.returns-clause-zero
returns-clause-zero g c = filled_up g.N.Number.value c.new-cells.result.items c.resize.new.self.items c.args.count _
    c.zero.result c.new-cells.ensures.items c.in_ok-resize.ensures.items c.zero.ensures
