use Rattle.std.proofs.Common.{◌≡◌, ◌≤◌, ◌+◌, ◌⊎◌}
use Rattle.cla_grouping.specs.Sizes.{best_bytes, with_tuples_of}
use Rattle.cla_grouping.proofs.sizes.most_tuples.Given as goal

-- past `high` no group is smaller than the target
abbrev pub invariant-loop : goal.invariant-loop
invariant-loop l = record {
  order : l.low ≤ l.high;
  within : l.high ≤ l.f.rows;
  past : (l.high ≡ l.f.rows) ⊎ (l.target ≤ best_bytes (with_tuples_of l.f (l.high + 1)));
}
