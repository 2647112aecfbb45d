use Rattle.std.proofs.Common.{◌+◌, length, ap, sym, arith}
use Rattle.cla_offsets.specs.Segments.{segments_of}
use Rattle.cla_offsets.proofs.SegmentRows.{segment_there}
use Rattle.cla_offsets.proofs.ListPlaces.{lists_few, list_end, begin_within, list_there}
use Rattle.cla_offsets.proofs.rows.OffsetRows.list.Goals as goal

pub offset_bounds-deref-begin : goal.offset_bounds-deref-begin
offset_bounds-deref-begin c =
    let v = c.args.self.now in
    let r = c.self.inside in
    let are = rw c.self.view_is at c.self.invariant in
    let there = segment_there r.rows c.args.s (rw (sym are.count) at c.requires.segment) in
    let within = begin_within v (segments_of r.rows) c.args.s c.args.k there (omega (arith, c.requires.tuple)) in
    omega (arith, c.begin.ensures, within, lists_few v (segments_of r.rows), are.few)

pub slice_bounds-result-count : goal.slice_bounds-result-count
slice_bounds-result-count c =
    omega (arith, c.begin.ensures, c.begin-2.ensures, list_end c.args.self.now c.args.s c.args.k)

pub slice_bounds-result-start : goal.slice_bounds-result-start
slice_bounds-result-start c =
    omega (arith, c.begin.ensures, c.begin-2.ensures, list_end c.args.self.now c.args.s c.args.k)

pub slice_bounds-result-end : goal.slice_bounds-result-end
slice_bounds-result-end c =
    let v = c.args.self.now in
    let r = c.self.inside in
    let are = rw c.self.view_is at c.self.invariant in
    let there = segment_there r.rows c.args.s (rw (sym are.count) at c.requires.segment) in
    let within = begin_within v (segments_of r.rows) c.args.s (c.args.k + 1) there (omega (arith, c.requires.tuple)) in
    rw c.deref.ensures.value (omega (arith, c.begin-2.ensures, ap length are.lists.offsets, within))

pub returns : goal.returns
returns c =
    let v = c.args.self.now in
    let r = c.self.inside in
    let are = rw c.self.view_is at c.self.invariant in
    let there = segment_there r.rows c.args.s (rw (sym are.count) at c.requires.segment) in
    rw (c.deref.ensures.value, are.lists.offsets, c.begin.ensures, c.begin-2.ensures)
    (list_there v (segments_of r.rows) c.args.s c.args.k there c.requires.tuple)
