use Rattle.std.proofs.Common.{◌≡◌, ◌+◌, take}
use Rattle.cla_layout.specs.Values.{values_of}
use Rattle.cla_coded.specs.Parts.{parts_of}
use Rattle.cla_coded.specs.Tables.{layout_of}
use Rattle.cla_agg.specs.Lines.{IsSumOf}
use Rattle.cla_agg.proofs.Placed.{ArePartsPlaced}
use Rattle.cla_agg.proofs.columns.add_columns.Given as goal

-- the columns of the parts so far
abbrev pub invariant-loop-part : goal.invariant-loop-part
invariant-loop-part g l = record {
  sums : ArePartsPlaced IsSumOf (layout_of g.G.Group.codes g.G.Group.dictionary l.m) l.part-index l.fn.into l.into;
  counts : l.counts
      ≡ record l.fn.meter {
        mults =
            l.fn.meter.mults + values_of (take l.part-index (parts_of g.G.Group.codes g.G.Group.dictionary l.m.parts));
      };
}
