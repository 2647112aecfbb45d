use Rattle.std.proofs.Common.{◌≡◌, ◌/◌, ◌%◌}
use Rattle.cla_layout.specs.Groups.{code_of}
use Rattle.cla_offsets.specs.Segments.{segment_rows, list_of, code_by}
use Rattle.cla_offsets.proofs.rows.OffsetRows.code_at.Given as goal

-- the lists of the codes before code k tell the row's code
abbrev pub invariant-loop-k : goal.invariant-loop-k
invariant-loop-k l = record {
  told : code_by l.self.rest (list_of l.self (l.i / segment_rows)) l.k (l.i % segment_rows) ≡ code_of l.self.codes l.i;
}
