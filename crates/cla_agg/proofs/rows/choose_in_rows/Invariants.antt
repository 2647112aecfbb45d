use Rattle.std.proofs.Common.{◌<◌, ℕ, length, map}
use Rattle.cla_layout.specs.Groups.{at}
use Rattle.cla_coded.specs.Parts.{parts_of}
use Rattle.cla_agg.proofs.Spread.{IsFirstOfRow}
use Rattle.cla_agg.proofs.rows.choose_in_rows.Given as goal

-- the parts before q
abbrev pub invariant-loop-q : goal.invariant-loop-q
invariant-loop-q g l = (i : ℕ) → i < length l.into
    → IsFirstOfRow g.O.Order.before (parts_of g.G.Group.codes g.G.Group.dictionary l.m.parts) i l.q
    (at (map g.N.Number.value l.into) i)
