use Rattle.std.proofs.Common.{◌≡◌, ◌<◌, ℕ, false}
use Rattle.cla_layout.specs.Layouts.{part_at, has_column}
use Rattle.cla_coded.specs.Parts.{parts_of}
use Rattle.cla_coded.proofs.entry.entry_in.Given as goal

-- no part so far has the column
abbrev pub invariant-loop-part : goal.invariant-loop-part
invariant-loop-part g l = (q : ℕ) → q < l.part-index →
    has_column (part_at (parts_of g.G.Group.codes g.G.Group.dictionary l.parts) q) l.j
    ≡ false
