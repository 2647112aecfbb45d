use Rattle.std.proofs.Common.{◌≡◌}
use Rattle.cla_spec.specs.Numbers.{sum_to}
use Rattle.cla_layout.specs.Groups.{value_of}
use Rattle.cla_agg.proofs.rows.sum_of_tuple.Given as goal

-- the values before place c
abbrev pub invariant-loop-c : goal.invariant-loop-c
invariant-loop-c g l = l.sum ≡ sum_to (value_of (g.G.Group.dictionary l.g) l.k) l.c
