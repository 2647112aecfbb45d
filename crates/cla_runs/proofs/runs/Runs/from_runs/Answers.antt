use Rattle.std.proofs.Common.{ap}
use Rattle.cla_runs.specs.Rows.{RowsOf}
use Rattle.cla_runs.proofs.runs.Runs.from_runs.Goals as goal

pub from_runs-requires : goal.from_runs-requires
from_runs-requires g c = record { runs = (c.requires.runs.0, rw c.len-tuples.ensures.count c.requires.runs.3) }

pub invariant_of-result : goal.invariant_of-result
invariant_of-result g c =
    let are = rw (← c.len-tuples.ensures.count) at c.requires.runs.3 in
    rw (c.in_ok-rows.ensures.ok, c.in_ok-kept.ensures c.requires.runs.0 are) (record {
      is = c.requires.runs.1;
      all = c.len-tuples.ensures.count;
    })

pub returns-clause-codes : goal.returns-clause-codes
returns-clause-codes g c = λ codes given.
    let are = rw (← c.len-tuples.ensures.count) at given in
    rw c.in_ok-rows.ensures.ok (ap (λ (rows : RowsOf). rows.codes) (c.in_ok-kept.ensures codes are))
