use Rattle.std.proofs.Common.{◌<◌, ℕ}
use Rattle.cla_layout.specs.Layouts.{IsPart, part_at}
use Rattle.cla_coded.specs.Parts.{parts_of}
use Rattle.cla_checked_tables.proofs.tables.are_parts.Given as goal

-- those before this one are parts
abbrev pub invariant-loop-part : goal.invariant-loop-part
invariant-loop-part g l = (q : ℕ) → q < l.part-index →
    IsPart 47 l.rows (part_at (parts_of g.G.Group.codes g.G.Group.dictionary l.parts) q)
