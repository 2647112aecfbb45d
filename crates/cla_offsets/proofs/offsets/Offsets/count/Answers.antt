use Rattle.std.proofs.Common.{ap, length, arith}
use Rattle.cla_layout.proofs.Listings.{rows_where_few}
use Rattle.cla_offsets.proofs.SegmentRows.{segment_size}
use Rattle.cla_offsets.proofs.offsets.Offsets.count.Goals as goal

pub overflow_cast-result : goal.overflow_cast-result
overflow_cast-result g c =
    omega (arith, ap length c.list.ensures, rows_where_few, segment_size c.args.self.now.rows.value.codes c.args.s)
