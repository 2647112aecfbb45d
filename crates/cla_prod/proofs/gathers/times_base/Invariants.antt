use Rattle.std.proofs.Common.{◌≡◌, ◌+◌, length, map, take}
use Rattle.cla_layout.specs.Groups.{at}
use Rattle.cla_coded.specs.Parts.{parts_of}
use Rattle.cla_prod.specs.Sums.{values_from}
use Rattle.cla_prod.proofs.ColumnsSet.{AreGatheredTo}
use Rattle.cla_prod.proofs.gathers.times_base.Given as goal

-- the parts so far
abbrev pub invariant-loop-part : goal.invariant-loop-part
invariant-loop-part g l = record {
  sums : AreGatheredTo l.from (length l.items) l.part-index (parts_of g.G.Group.codes g.G.Group.dictionary l.parts)
      (at (map g.N.Number.value l.items)) l.sums;
  counts : l.meter ≡ record l.fn.meter {
    mults = l.fn.meter.mults + values_from l.from
        (take l.part-index (parts_of g.G.Group.codes g.G.Group.dictionary l.parts));
  };
}
