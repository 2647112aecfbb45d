use Rattle.std.proofs.Common.{sym, ◌∙◌, arith}
use Rattle.cla_rows.proofs.RunBounds.{runs_few}
use Rattle.cla_rows.proofs.RunsOfCode.{listed_count}
use Rattle.cla_runs.proofs.run_rows.RunRows.count.Goals as goal

pub overflow_cast-result : goal.overflow_cast-result
overflow_cast-result c =
    let kept = rw c.self.view_is at c.self.invariant in
    omega (arith, c.len.ensures, runs_few kept.runs, kept.few)

pub returns : goal.returns
returns c =
    let kept = rw c.self.view_is at c.self.invariant in
    omega (arith, c.len.ensures, listed_count kept.runs)
