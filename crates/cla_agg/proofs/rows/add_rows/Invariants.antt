use Rattle.std.proofs.Common.{◌≡◌, ◌<◌, ℕ, length, take}
use Rattle.cla_layout.specs.Groups.{at}
use Rattle.cla_layout.specs.Laws.{sum_over}
use Rattle.cla_coded.specs.Parts.{parts_of}
use Rattle.cla_agg.proofs.Spread.{part_row}
use Rattle.cla_agg.proofs.rows.add_rows.Given as goal

-- the parts so far
abbrev pub invariant-loop-part : goal.invariant-loop-part
invariant-loop-part g l = (i : ℕ) → i < length l.into
    → at l.into i ≡ sum_over (part_row i) (take l.part-index (parts_of g.G.Group.codes g.G.Group.dictionary l.m.parts))
