use Rattle.std.proofs.Common.{◌≡◌, ◌<◌, ◌+◌, ◌*◌, ℕ, length, map}
use Rattle.cla_layout.specs.Groups.{at}
use Rattle.cla_prod.specs.Sums.{tuple_times}
use Rattle.cla_prod.proofs.scatters.times_tuples.Given as goal

abbrev pub invariant-loop-k : goal.invariant-loop-k
invariant-loop-k g l = record {
  products : (q : ℕ) → q < l.k → at l.into q ≡ tuple_times (g.G.Group.dictionary l.part.group) l.part.columns.items
      (map g.N.Number.value l.items) q (length l.part.columns.items);
  counts : l.meter ≡ record l.fn.meter { mults = l.fn.meter.mults + l.k * length l.part.columns.items };
}
