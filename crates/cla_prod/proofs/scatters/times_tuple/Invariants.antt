use Rattle.std.proofs.Common.{◌≡◌, ◌+◌, map}
use Rattle.cla_prod.specs.Sums.{tuple_times}
use Rattle.cla_prod.proofs.scatters.times_tuple.Given as goal

abbrev pub invariant-loop-c : goal.invariant-loop-c
invariant-loop-c g l = record {
  sum : l.sum ≡ tuple_times (g.G.Group.dictionary l.part.group) l.part.columns.items
      (map g.N.Number.value l.items) l.k l.c;
  counts : l.meter ≡ record l.fn.meter { mults = l.fn.meter.mults + l.c };
}
