use Rattle.std.proofs.Common.{sym, ◌∙◌, arith}
use Rattle.cla_rows.proofs.RunBounds.{runs_few}
use Rattle.cla_rows.proofs.RunsOfCode.{begins_count}
use Rattle.cla_runs.proofs.run_rows.RunRows.run_count.Goals as goal

pub count_of-requires : goal.count_of-requires
count_of-requires c = omega (arith, runs_few c.self.invariant.runs, c.self.invariant.few)

pub returns : goal.returns
returns c =
    let kept = rw c.self.view_is at c.self.invariant in
    c.count_of.ensures ∙ sym (begins_count kept.runs c.args.k c.requires)
