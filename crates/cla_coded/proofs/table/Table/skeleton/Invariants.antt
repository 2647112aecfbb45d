use Rattle.std.proofs.Common.{◌≡◌, take, map}
use Rattle.cla_coded.specs.Skeletons.{view_of_part, part_skeleton_of}
use Rattle.cla_coded.proofs.table.Table.skeleton.Given as goal

-- the parts so far
abbrev pub invariant-loop-part : goal.invariant-loop-part
invariant-loop-part g l = map view_of_part l.parts.items
    ≡ take l.part-index (map (part_skeleton_of g.G.Group.codes) l.part-items)
