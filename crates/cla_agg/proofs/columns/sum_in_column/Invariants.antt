use Rattle.std.proofs.Common.{◌≡◌, ◌+◌}
use Rattle.cla_spec.specs.Numbers.{sum_to}
use Rattle.cla_layout.proofs.Cells.{occurring}
use Rattle.cla_agg.proofs.columns.sum_in_column.Given as goal

-- the tuples so far
abbrev pub invariant-loop-n : goal.invariant-loop-n
invariant-loop-n g l = record {
  sum : l.sum
      ≡ sum_to (λ n. occurring (g.G.Group.codes l.g) (g.G.Group.dictionary l.g) (l.from + n) l.c) l.n;
  counts : l.meter ≡ record l.fn.meter { mults = l.fn.meter.mults + l.n };
}
