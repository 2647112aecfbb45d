use Rattle.std.proofs.Common.{◌∙◌, sym, arith}
use Rattle.cla_offsets.proofs.SegmentRows.{segment_there}
use Rattle.cla_offsets.proofs.ListPlaces.{begin_is, bases_count, start_there}
use Rattle.cla_offsets.proofs.rows.OffsetRows.begin.Goals as goal

pub begin-requires : goal.begin-requires
begin-requires c =
    let are = rw c.self.view_is at c.self.invariant in
    let there = segment_there c.self.inside.rows c.args.s (rw (sym are.count) at c.requires.segment) in
    record {
      segment = omega (arith, bases_count _ _ _ are.lists, there);
      place = rw are.tuples_are (start_there _ _ _ are.lists c.args.s c.args.k there c.requires.code);
    }

pub returns : goal.returns
returns c =
    let are = rw c.self.view_is at c.self.invariant in
    let there = segment_there c.self.inside.rows c.args.s (rw (sym are.count) at c.requires.segment) in
    rw are.tuples_are at c.begin.ensures ∙ begin_is _ _ _ are.lists c.args.s c.args.k there c.requires.code
