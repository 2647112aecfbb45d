use Rattle.std.proofs.Common.{arith}
use Rattle.std.proofs.lemmas.List.Sums.{length-filter, count_by-le-length}
use Rattle.cla_cocode.specs.Weighing.{begins_pair}
use Rattle.cla_cocode.proofs.weigh.runs_in.Goals as goal

pub overflow_add-runs : goal.overflow_add-runs
overflow_add-runs c =
    let begins = begins_pair c.args.first c.args.a.now c.args.second c.args.b.now in
    let rows = c.args.rows.now in
    omega (
      arith,
      c.loop-row.invariant.runs,
      length-filter begins rows,
      count_by-le-length begins rows,
      c.requires.few,
      c.listed_run-runs.ensures.small,
    )
