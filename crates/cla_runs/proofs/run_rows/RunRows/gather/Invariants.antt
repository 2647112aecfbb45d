use Rattle.std.proofs.Common.{map}
use Rattle.cla_rows.specs.RunBounds.{edge}
use Rattle.cla_runs.specs.Walks.{AreGatheredTo}
use Rattle.cla_runs.proofs.run_rows.RunRows.gather.Given as goal

-- the rows before stretch s are gathered
abbrev pub invariant-loop-s : goal.invariant-loop-s
invariant-loop-s g l = AreGatheredTo (edge l.self-inside.runs.begins.items l.self-inside.runs.ends.items l.s)
    l.self.codes
    (map g.N.Number.value l.rows) l.into
