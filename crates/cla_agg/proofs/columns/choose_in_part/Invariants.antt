use Rattle.std.proofs.Common.{◌-◌, ◌≤◌, map}
use Rattle.cla_coded.specs.Parts.{part_of}
use Rattle.cla_agg.specs.Lines.{AreMade, IsChosen}
use Rattle.cla_agg.proofs.columns.choose_in_part.Given as goal

-- the tuples before this one
abbrev pub invariant-loop-from : goal.invariant-loop-from
invariant-loop-from g l = record {
  made : AreMade (IsChosen g.O.Order.before (part_of g.G.Group.codes g.G.Group.dictionary l.part) l.from)
      (part_of g.G.Group.codes g.G.Group.dictionary l.part) (map g.N.Number.value l.fn.into)
      (map g.N.Number.value l.into);
  within : l.from ≤ l.tuples;
}

abbrev pub decreases-loop-from : goal.decreases-loop-from
decreases-loop-from g l = l.tuples - l.from
