use Rattle.cla_layout.specs.Groups.{value_of}
use Rattle.cla_layout.specs.GroupLaws.{IsExtreme}
use Rattle.cla_agg.proofs.columns.chosen_in_column.Given as goal

-- the tuples before k
abbrev pub invariant-loop-k : goal.invariant-loop-k
invariant-loop-k g l = IsExtreme g.O.Order.before (λ k. value_of (g.G.Group.dictionary l.g) k l.c) l.k
    (g.N.Number.value l.first)
