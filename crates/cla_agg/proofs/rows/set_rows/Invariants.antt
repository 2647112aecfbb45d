use Rattle.std.proofs.Common.{map}
use Rattle.cla_agg.proofs.Spread.{AreJoinedBefore}
use Rattle.cla_agg.proofs.rows.set_rows.Given as goal

-- the rows before row i
abbrev pub invariant-loop-i : goal.invariant-loop-i
invariant-loop-i g l =
    AreJoinedBefore (λ old v. v) l.i l.codes (map g.N.Number.value l.items) (map g.N.Number.value l.fn.into)
    (map g.N.Number.value l.into)
