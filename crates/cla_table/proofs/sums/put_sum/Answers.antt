use Rattle.cla_table.specs.Sums.{sum_in}
use Rattle.cla_table.proofs.SumLaws.{on_ok, on_err, set_then, same_then}
use Rattle.cla_table.proofs.sums.put_sum.Goals as goal

pub returns-clause-set : goal.returns-clause-set
returns-clause-set g c =
    let grid = c.args.grid in
    let value = g.N.Number.value in
    on_ok c.set_sum-2.result
    (set_then grid (sum_in value grid c.args.sums.now) (sum_in value grid c.grow.new.sums)
    (sum_in value grid c.set_sum-2.new.sums) c.args.row c.args.col (value c.args.sum) c.grow.ensures.same)
    c.set_sum-2.ensures.set

pub returns-clause-same : goal.returns-clause-same
returns-clause-same g c =
    let grid = c.args.grid in
    let value = g.N.Number.value in
    on_err c.set_sum-2.result
    (same_then grid (sum_in value grid c.args.sums.now) (sum_in value grid c.grow.new.sums)
    (sum_in value grid c.set_sum-2.new.sums) c.grow.ensures.same) c.set_sum-2.ensures.same
