use Rattle.std.proofs.Common.{◌≡◌, ◌+◌, ◌*◌, ◌-◌, length, map, take, drop, ◌∙◌, arith}
use Rattle.std.proofs.lemmas.List.{length-append, length-map, map-append}
use Rattle.cla_layout.specs.Groups.{code_of}
use Rattle.cla_group.proofs.Reorderings.{tuple_read, in_order_more}
use Rattle.cla_group.proofs.reordered.values_in_order.Goals as goal

pub loop-k-preserved : goal.loop-k-preserved
loop-k-preserved g c =
    let value = g.N.Number.value in
    let width = c.args.width in
    let order = c.args.order.now in
    let values = c.args.values.now in
    let kept = c.loop-k.kept.items in
    let i = c.loop-k.k-index in
    let code = code_of order i in
    let n = (code * width + width) - code * width in
    let piece = take n (drop (code * width) values) in
    let is = tuple_read value width code n values (omega arith) (c.requires.within i (omega arith)) in
    let size : length (map value kept) ≡ i * width = length-map kept value ∙ c.loop-k.invariant.count in
    record {
      count =
          rw c.in_ok-extend_from_slice.ensures.items
          (omega (arith, length-append kept piece, c.loop-k.invariant.count, is.size, length-map piece value));
      so_far =
          rw (c.in_ok-extend_from_slice.ensures.items, map-append value kept piece)
          (in_order_more width i order (map value values) (map value kept) (map value piece) size is
          c.loop-k.invariant.so_far);
    }
