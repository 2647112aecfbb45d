use Rattle.cla_layout.specs.Groups.{value_of}
use Rattle.cla_layout.specs.GroupLaws.{IsExtreme}
use Rattle.cla_agg.proofs.extreme.first_of_tuple.Given as goal

-- the values before place c
abbrev pub invariant-loop-c : goal.invariant-loop-c
invariant-loop-c g l = IsExtreme g.O.Order.before (value_of (g.G.Group.dictionary l.g) l.k) l.c
    (g.N.Number.value l.first)
