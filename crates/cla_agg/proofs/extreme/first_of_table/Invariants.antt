use Rattle.cla_coded.specs.Parts.{parts_of}
use Rattle.cla_agg.specs.Extremes.{IsFirstOfParts}
use Rattle.cla_agg.proofs.extreme.first_of_table.Given as goal

-- the parts before q
abbrev pub invariant-loop-q : goal.invariant-loop-q
invariant-loop-q g l = IsFirstOfParts g.O.Order.before (parts_of g.G.Group.codes g.G.Group.dictionary l.m.parts) l.q
    (g.N.Number.value l.first)
