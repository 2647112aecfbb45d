use Rattle.std.proofs.Common.{◌≡◌, ◌+◌, ◌*◌}
use Rattle.cla_coded.specs.Parts.{part_of}
use Rattle.cla_agg.proofs.Placed.{AreAddedBefore}
use Rattle.cla_agg.proofs.columns.add_tuples.Given as goal

-- the columns before place c
abbrev pub invariant-loop-c : goal.invariant-loop-c
invariant-loop-c g l = record {
  sums : AreAddedBefore l.from (l.from + l.count) l.c (part_of g.G.Group.codes g.G.Group.dictionary l.part) l.fn.into
      l.into;
  counts : l.meter ≡ record l.fn.meter { mults = l.fn.meter.mults + l.c * l.count };
}
