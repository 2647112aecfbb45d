use Rattle.std.proofs.Common.{ap, arith}
use Rattle.cla_runs.specs.Rows.{RowsOf}
use Rattle.cla_rows.proofs.RunBounds.{runs_few, key_below}
use Rattle.cla_rows.proofs.RunsOfCode.{listed_keys_are, runs_by_key}
use Rattle.cla_runs.proofs.run_rows.RunRows.numbers.Goals as goal

pub group_places-requires : goal.group_places-requires
group_places-requires c =
    let kept = rw c.self.view_is at c.self.invariant in
    rw c.deref.ensures.value (record {
      below = key_below c.self.invariant.runs (omega arith) c.self.invariant.in_tuples;
      few = omega (arith, runs_few kept.runs, kept.few);
    })

pub returns-clause-grouped : goal.returns-clause-grouped
returns-clause-grouped c =
    let kept = rw c.self.view_is at c.self.invariant in
    let tuples = ap (λ (rows : RowsOf). rows.tuples) c.self.view_is in
    rw (listed_keys_are kept.runs, ← tuples) (rw c.deref.ensures.value at c.in_ok-group_places.ensures)

pub returns-clause-runs : goal.returns-clause-runs
returns-clause-runs c = let kept = rw c.self.view_is at c.self.invariant in runs_by_key kept.runs
