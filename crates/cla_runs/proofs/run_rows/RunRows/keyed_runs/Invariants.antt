use Rattle.cla_runs.proofs.KeyedLists.{AreFirst}
use Rattle.cla_runs.proofs.run_rows.RunRows.keyed_runs.Given as goal

-- the first n runs
abbrev pub invariant-loop-n : goal.invariant-loop-n
invariant-loop-n l = record {
  first : AreFirst l.n l.self-inside.runs.begins.items l.self-inside.runs.ends.items l.self-inside.runs.keys.items
      l.runs.items;
}
