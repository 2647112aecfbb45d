use Rattle.cla_layout.specs.Listed.{begins_run}
use Rattle.cla_stats.specs.Coded.{AreTallied, has_code}
use Rattle.cla_stats.proofs.counts.count_codes.Given as goal

-- the rows so far are counted
abbrev pub invariant-loop-i : goal.invariant-loop-i
invariant-loop-i l = record {
  occurring : AreTallied (has_code l.codes) l.i l.distinct l.occurrences.items;
  running : AreTallied (begins_run l.codes) l.i l.distinct l.runs.items;
}
