use Rattle.std.proofs.Common.{◌≡◌, ◌+◌, ◌*◌}
use Rattle.cla_spec.specs.Numbers.{sum_to}
use Rattle.cla_layout.proofs.Cells.{occurring}
use Rattle.cla_agg.proofs.total.sum_by_tuples.Given as goal

-- the sum of the tuples before k, each counted
abbrev pub invariant-loop-k : goal.invariant-loop-k
invariant-loop-k g l = record {
  sum : l.sum
      ≡ sum_to (λ k. sum_to (occurring (g.G.Group.codes l.g) (g.G.Group.dictionary l.g) k) (g.G.Group.columns l.g)) l.k;
  counts : l.meter ≡ record l.fn.meter { mults = l.fn.meter.mults + l.k * g.G.Group.columns l.g };
}
