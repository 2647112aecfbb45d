use Rattle.cla_layout.specs.Groups.{value_of}
use Rattle.cla_layout.specs.Firsts.{IsExtremeEntry}
use Rattle.cla_agg.proofs.extreme.first_of_group.Given as goal

-- the tuples before k
abbrev pub invariant-loop-k : goal.invariant-loop-k
invariant-loop-k g l = IsExtremeEntry g.O.Order.before l.k (g.G.Group.columns l.g) (value_of (g.G.Group.dictionary l.g))
    (g.N.Number.value l.first)
