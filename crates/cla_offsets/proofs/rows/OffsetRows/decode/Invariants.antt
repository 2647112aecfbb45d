use Rattle.std.proofs.Common.{◌≡◌, ◌<◌, ℕ, length}
use Rattle.cla_layout.specs.Groups.{code_of}
use Rattle.cla_offsets.specs.Segments.{list_of, code_by}
use Rattle.cla_offsets.proofs.rows.OffsetRows.decode.Given as goal

-- the rows of the codes before code k have theirs
abbrev pub invariant-loop-k : goal.invariant-loop-k
invariant-loop-k l = record {
  given : (j : ℕ) → j < length l.into → code_of l.into j ≡ code_by l.self.rest (list_of l.self l.s) l.k j;
}
