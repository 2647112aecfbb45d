use Rattle.std.proofs.Common.{◌<◌, ◌≤◌, ℕ, length}
use Rattle.cla_layout.specs.Layouts.{part_at}
use Rattle.cla_coded.specs.Parts.{parts_of}
use Rattle.cla_agg.proofs.rows.most_tuples.Given as goal

-- the parts so far
abbrev pub invariant-loop-part : goal.invariant-loop-part
invariant-loop-part g l = (q : ℕ) → q < l.part-index
    → length (part_at (parts_of g.G.Group.codes g.G.Group.dictionary l.m.parts) q).tuples ≤ l.most
