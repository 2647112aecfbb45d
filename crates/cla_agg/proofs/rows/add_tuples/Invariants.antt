use Rattle.std.proofs.Common.{◌≡◌, ◌<◌, ℕ}
use Rattle.cla_spec.specs.Numbers.{sum_to}
use Rattle.cla_layout.specs.Groups.{at, value_of}
use Rattle.cla_agg.proofs.rows.add_tuples.Given as goal

-- the tuples before k
abbrev pub invariant-loop-k : goal.invariant-loop-k
invariant-loop-k g l = (t : ℕ) → t < l.k →
    at l.into t ≡ sum_to (value_of (g.G.Group.dictionary l.g) t) (g.G.Group.columns l.g)
