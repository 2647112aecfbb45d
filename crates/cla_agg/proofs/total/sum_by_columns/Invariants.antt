use Rattle.std.proofs.Common.{◌≡◌, ◌≤◌, ◌+◌, ◌-◌, ◌*◌}
use Rattle.cla_spec.specs.Numbers.{sum_to}
use Rattle.cla_layout.proofs.Cells.{occurring}
use Rattle.cla_agg.proofs.total.sum_by_columns.Given as goal

-- the tuples before this one
abbrev pub invariant-loop-from : goal.invariant-loop-from
invariant-loop-from g l = record {
  sum : l.sum
      ≡ sum_to (λ k. sum_to (occurring (g.G.Group.codes l.g) (g.G.Group.dictionary l.g) k) (g.G.Group.columns l.g))
      l.from;
  counts : l.meter ≡ record l.fn.meter { mults = l.fn.meter.mults + l.from * g.G.Group.columns l.g };
  within : l.from ≤ l.tuples;
}

abbrev pub decreases-loop-from : goal.decreases-loop-from
decreases-loop-from g l = l.tuples - l.from
