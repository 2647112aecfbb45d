use Rattle.std.proofs.Common.{◌<◌, ℕ, map}
use Rattle.cla_layout.specs.Groups.{at, value_of}
use Rattle.cla_layout.specs.GroupLaws.{IsExtreme}
use Rattle.cla_agg.proofs.rows.read_group.Given as goal

-- the tuples before k
abbrev pub invariant-loop-k : goal.invariant-loop-k
invariant-loop-k g l = (t : ℕ) → t < l.k
    → IsExtreme g.O.Order.before (value_of (g.G.Group.dictionary l.g) t) (g.G.Group.columns l.g)
    (at (map g.N.Number.value l.firsts) t)
