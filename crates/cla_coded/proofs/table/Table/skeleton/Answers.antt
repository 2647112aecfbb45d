use Rattle.cla_coded.specs.Skeletons.{view_of_part, part_skeleton_of}
use Rattle.cla_coded.proofs.Outlines.{mapped_more}
use Rattle.cla_coded.proofs.table.Table.skeleton.Goals as goal

pub loop-part-preserved : goal.loop-part-preserved
loop-part-preserved g c =
    rw c.in_ok-push.ensures.items
    (mapped_more (part_skeleton_of g.G.Group.codes) view_of_part c.deref-part-items.result.now c.loop-part.part-index
    c.part-item.result
    c.loop-part.parts.items c.in_ok-part_skeleton.field-0
    c.loop-part-test.true c.part-item.is c.loop-part.invariant c.in_ok-part_skeleton.ensures)
