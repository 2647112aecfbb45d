use Rattle.cla_rows.specs.RunBounds.{edge}
use Rattle.cla_runs.specs.Walks.{AreJoinedTo}
use Rattle.cla_runs.proofs.run_rows.RunRows.join_each.Given as goal

-- the rows before stretch s are joined
abbrev pub invariant-loop-s : goal.invariant-loop-s
invariant-loop-s g l = AreJoinedTo
    (edge l.self-inside.runs.begins.items l.self-inside.runs.ends.items l.s) g.J.Join.join l.self.codes l.parts
    l.fn.into l.into
