use Rattle.std.proofs.Common.{◌≡◌, ◌+◌, ◌*◌}
use Rattle.cla_spec.specs.Numbers.{sum_to}
use Rattle.cla_layout.proofs.Cells.{occurring}
use Rattle.cla_agg.proofs.total.sum_of_tuples.Given as goal

-- the columns before place c
abbrev pub invariant-loop-c : goal.invariant-loop-c
invariant-loop-c g l = record {
  sum : l.sum
      ≡ sum_to (λ c. sum_to (λ n. occurring (g.G.Group.codes l.g) (g.G.Group.dictionary l.g) (l.from + n) c) l.count)
      l.c;
  counts : l.meter ≡ record l.fn.meter { mults = l.fn.meter.mults + l.c * l.count };
}
