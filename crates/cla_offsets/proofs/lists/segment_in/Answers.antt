use Rattle.std.proofs.Common.{◌-◌, ◌*◌, arith}
use Rattle.cla_offsets.specs.Segments.{segment_rows}
use Rattle.cla_offsets.proofs.SegmentRows.{segment_cut}
use Rattle.cla_offsets.proofs.lists.segment_in.Goals as goal

pub returns : goal.returns
returns c =
    let n = c.min.result - c.args.s * segment_rows in
    segment_cut c.args.codes.now c.args.s n (omega (arith, c.min.ensures, c.requires.segment))
