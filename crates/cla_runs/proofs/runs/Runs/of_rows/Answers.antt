use Rattle.cla_runs.proofs.runs.Runs.of_rows.Goals as goal

pub returns-clause-rest : goal.returns-clause-rest
returns-clause-rest g c =
    rw (c.in_ok-new.ensures.ok, c.in_ok-rows.ensures, c.len-tuples.ensures.count)
    (c.rest_number-rest.ensures c.args.codes.now)
