use Rattle.std.proofs.Common.{map}
use Rattle.cla_layout.specs.Groups.{value_of}
use Rattle.cla_coded.proofs.CellPlaces.{RowWrittenTo}
use Rattle.cla_coded.proofs.dense.write_row.Given as goal

-- the columns before place c
abbrev pub invariant-loop-c : goal.invariant-loop-c
invariant-loop-c g l =
    RowWrittenTo l.shape l.part.columns.items (value_of (g.G.Group.dictionary l.part.group) l.k) l.i l.c
    (map g.N.Number.value l.fn.cells)
    (map g.N.Number.value l.cells)
