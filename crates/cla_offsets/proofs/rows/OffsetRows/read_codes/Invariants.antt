use Rattle.std.proofs.Common.{◌≡◌, ◌*◌, length, take}
use Rattle.std.specs.Prelude.{min}
use Rattle.cla_offsets.specs.Segments.{segment_rows}
use Rattle.cla_offsets.proofs.rows.OffsetRows.read_codes.Given as goal

-- the codes of the rows before segment s stand there
abbrev pub invariant-loop-s : goal.invariant-loop-s
invariant-loop-s l =
    let before = min (length l.self.codes) (l.s * segment_rows) in
    take before l.into ≡ take before l.self.codes
