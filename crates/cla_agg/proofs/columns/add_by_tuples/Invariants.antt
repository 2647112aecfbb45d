use Rattle.std.proofs.Common.{◌≡◌, ℕ, false, ◌+◌, ◌*◌, length}
use Rattle.cla_layout.specs.Groups.{at}
use Rattle.cla_layout.specs.Layouts.{has_column}
use Rattle.cla_coded.specs.Parts.{part_of}
use Rattle.cla_agg.specs.Lines.{AreAddedTo}
use Rattle.cla_agg.proofs.columns.add_by_tuples.Given as goal

-- the tuples before k
abbrev pub invariant-loop-k : goal.invariant-loop-k
invariant-loop-k g l = record {
  sums : AreAddedTo l.k (part_of g.G.Group.codes g.G.Group.dictionary l.part) l.into;
  kept : (j : ℕ) → has_column (part_of g.G.Group.codes g.G.Group.dictionary l.part) j ≡ false →
      at l.into j ≡ at l.fn.into j;
  counts : l.meter ≡ record l.fn.meter { mults = l.fn.meter.mults + l.k * length l.part.columns.items };
}
