use Rattle.cla_runs.proofs.RunsMade.{rows_are}
use Rattle.cla_runs.proofs.run_rows.RunRows.from_codes.Goals as goal

pub of_list-requires : goal.of_list-requires
of_list-requires c = rw (rows_are c.args.tuples c.args.rest c.in_ok-runs.runs c.args.codes.now c.in_ok-runs.ensures)
    (record { few = c.requires.few; runs = c.in_ok-runs.ensures; in_tuples = c.requires.below })

pub returns : goal.returns
returns c = rw (rows_are c.args.tuples c.args.rest c.in_ok-runs.runs c.args.codes.now c.in_ok-runs.ensures) at
    c.of_list.ensures
