use Rattle.std.proofs.Common.{◌≡◌, ◌+◌, take}
use Rattle.cla_layout.specs.Laws.{sum_over}
use Rattle.cla_coded.specs.Parts.{parts_of}
use Rattle.cla_layout.specs.Values.{values_of}
use Rattle.cla_agg.specs.Sums.{cells_sum}
use Rattle.cla_agg.proofs.total.base_sum.Given as goal

-- the parts so far
abbrev pub invariant-loop-part : goal.invariant-loop-part
invariant-loop-part g l = record {
  sum : l.sum
      ≡ sum_over (cells_sum l.m.rows) (take l.part-index (parts_of g.G.Group.codes g.G.Group.dictionary l.m.parts));
  counts : l.counts
      ≡ record l.fn.meter {
        mults =
            l.fn.meter.mults + values_of (take l.part-index (parts_of g.G.Group.codes g.G.Group.dictionary l.m.parts));
      };
}
