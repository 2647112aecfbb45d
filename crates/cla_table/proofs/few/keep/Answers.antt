use Rattle.cla_table.proofs.KeptLaws.{keeps, stay_within}
use Rattle.cla_table.proofs.few.keep.Goals as goal

pub returns-clause-kept : goal.returns-clause-kept
returns-clause-kept g c k = rw c.in_ok-insert.ensures.entries
    (keeps g.N.Number.value c.args.sums.now.entries c.args.place c.args.sum k)

pub returns-clause-within : goal.returns-clause-within
returns-clause-within g c m lt all = rw c.in_ok-insert.ensures.entries
    (stay_within g.N.Number.value m c.args.sums.now.entries c.args.place c.args.sum lt all)
