use Rattle.std.proofs.Common.{◌≡◌, ◌+◌, ◌-◌, ◌+ℤ◌, ◌*ℤ◌}
use Rattle.cla_layout.specs.Groups.{at, value_of}
use Rattle.cla_layout.specs.Layouts.{column_at}
use Rattle.cla_prod.specs.Sums.{AreSet}
use Rattle.cla_prod.proofs.gathers.add_tuple.Given as goal

-- the columns before place c
abbrev pub invariant-loop-c : goal.invariant-loop-c
invariant-loop-c g l = record {
  sums : AreSet l.first l.c l.part.columns.items
      (λ c. at l.fn.sums (column_at l.part.columns.items c) +ℤ value_of
      (g.G.Group.dictionary l.part.group) l.k c *ℤ l.w) l.fn.sums l.sums;
  counts : l.meter ≡ record l.fn.meter { mults = l.fn.meter.mults + (l.c - l.first) };
}
