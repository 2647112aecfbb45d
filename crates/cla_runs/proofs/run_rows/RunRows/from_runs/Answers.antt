use Rattle.std.proofs.Common.{ℕ, List, length, subst, sym, arith}
use Rattle.cla_runs.specs.KeyedRuns.{AreKeyedRuns}
use Rattle.cla_runs.specs.RunLists.{AreRunsIn}
use Rattle.cla_runs.proofs.RunsMade.{rows_are}
use Rattle.cla_runs.proofs.run_rows.RunRows.from_runs.Goals.{In_ok-list}
use Rattle.cla_runs.proofs.run_rows.RunRows.from_runs.Goals as goal

pub list_in_order-requires : goal.list_in_order-requires
list_in_order-requires c =
    let are = c.requires.runs.1 in
    rw c.deref.ensures.value
    (c.requires.runs.0, c.in_order-runs.ensures c.requires.runs.0 c.args.rows c.args.tuples c.args.rest are)

-- the runs are listed
listed : (c : In_ok-list) (codes : List ℕ) → AreKeyedRuns codes c.args.rows c.args.tuples c.args.rest
    c.args.runs.items → AreRunsIn c.in_ok-list.list (length codes) codes c.args.rest
listed c codes are = subst (λ (n : ℕ). AreRunsIn c.in_ok-list.list n codes c.args.rest) (sym are.count)
    (c.in_ok-list.ensures codes (rw c.deref.ensures.value
    (c.in_order-runs.ensures codes c.args.rows c.args.tuples c.args.rest are)))

pub of_list-requires : goal.of_list-requires
of_list-requires c =
    let are = c.requires.runs.1 in
    let list = listed (goal.at.of_list-requires c).In_ok-list c.requires.runs.0 are in
    rw (rows_are c.args.tuples c.args.rest c.in_ok-list.list c.requires.runs.0 list) (record {
      few = omega (arith, are.few, are.count);
      runs = list;
      in_tuples = λ i row. are.in_tuples i (omega (arith, row, are.count));
    })

pub returns : goal.returns
returns c = λ codes are.
    rw (rows_are c.args.tuples c.args.rest c.in_ok-list.list codes (listed (goal.at.returns c).In_ok-list codes are)) at
    c.of_list.ensures
