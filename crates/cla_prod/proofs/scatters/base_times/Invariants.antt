use Rattle.std.proofs.Common.{◌≡◌, ◌<◌, ◌+◌, ℕ, length, map, take}
use Rattle.cla_layout.specs.Groups.{at}
use Rattle.cla_layout.specs.Laws.{sum_over}
use Rattle.cla_coded.specs.Parts.{parts_of}
use Rattle.cla_layout.specs.Values.{values_of}
use Rattle.cla_prod.specs.Sums.{part_times}
use Rattle.cla_prod.proofs.scatters.base_times.Given as goal

abbrev pub invariant-loop-part : goal.invariant-loop-part
invariant-loop-part g l = record {
  sums : (i : ℕ) → i < length l.sums → at l.sums i ≡ sum_over (part_times (map g.N.Number.value l.items) i)
      (take l.part-index (parts_of g.G.Group.codes g.G.Group.dictionary l.parts));
  counts : l.meter ≡ record l.fn.meter {
    mults = l.fn.meter.mults + values_of
        (take l.part-index (parts_of g.G.Group.codes g.G.Group.dictionary l.parts));
  };
}
