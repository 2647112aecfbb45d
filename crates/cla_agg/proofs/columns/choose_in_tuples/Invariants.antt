use Rattle.std.proofs.Common.{map}
use Rattle.cla_coded.specs.Parts.{part_of}
use Rattle.cla_agg.specs.Lines.{IsChosen}
use Rattle.cla_agg.proofs.Placed.{AreMadeBefore}
use Rattle.cla_agg.proofs.columns.choose_in_tuples.Given as goal

-- the columns before place c
abbrev pub invariant-loop-c : goal.invariant-loop-c
invariant-loop-c g l =
    AreMadeBefore (IsChosen g.O.Order.before (part_of g.G.Group.codes g.G.Group.dictionary l.part) l.end)
    (IsChosen g.O.Order.before (part_of g.G.Group.codes g.G.Group.dictionary l.part) l.from) l.c
    (part_of g.G.Group.codes g.G.Group.dictionary l.part) (map g.N.Number.value l.fn.into)
    (map g.N.Number.value l.into)
