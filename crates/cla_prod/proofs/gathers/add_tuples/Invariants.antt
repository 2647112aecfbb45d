use Rattle.std.proofs.Common.{◌≡◌, ◌+◌, ◌-◌, ◌*◌, length}
use Rattle.cla_prod.specs.Sums.{AreSet, column_times}
use Rattle.cla_prod.proofs.gathers.add_tuples.Given as goal

-- the tuples before k
abbrev pub invariant-loop-k : goal.invariant-loop-k
invariant-loop-k g l = record {
  sums : AreSet l.first (length l.part.columns.items) l.part.columns.items
      (λ c. column_times (g.G.Group.dictionary l.part.group) l.gathered c l.k) l.fn.sums l.sums;
  counts : l.meter ≡ record l.fn.meter { mults = l.fn.meter.mults + l.k * (length l.part.columns.items - l.first) };
}
