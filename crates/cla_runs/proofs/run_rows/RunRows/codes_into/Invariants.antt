use Rattle.std.proofs.Common.{◌≤◌, ◌+◌, ◌-◌, ◌*◌, length}
use Rattle.cla_rows.specs.RunBounds.{edge}
use Rattle.cla_runs.specs.Walks.{AreCodedTo}
use Rattle.cla_runs.proofs.run_rows.RunRows.codes_into.Given as goal

-- the rows before stretch s have their codes
abbrev pub invariant-loop-self : goal.invariant-loop-self
invariant-loop-self l = record {
  there : l.s ≤ 2 * length l.self-inside.runs.keys.items + 1;
  coded : AreCodedTo (edge l.self-inside.runs.begins.items l.self-inside.runs.ends.items l.s) l.self.codes l.a l.into;
}

abbrev pub decreases-loop-self : goal.decreases-loop-self
decreases-loop-self l = 2 * length l.self-inside.runs.keys.items + 1 - l.s
