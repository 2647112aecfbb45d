use Rattle.std.proofs.Common.{◌≡◌, ◌*◌, length, map}
use Rattle.std.specs.Prelude.{min}
use Rattle.cla_offsets.specs.Segments.{segment_rows}
use Rattle.cla_layout.specs.Groups.{AreGathered}
use Rattle.cla_offsets.proofs.rows.OffsetRows.gather.Given as goal

-- the rows before segment s are gathered
abbrev pub invariant-loop-s : goal.invariant-loop-s
invariant-loop-s g l = record {
  room : length l.codes ≡ segment_rows;
  so_far : AreGathered l.self.codes (map g.N.Number.value l.rows) (min (l.s * segment_rows) (length l.self.codes))
      l.into;
}
