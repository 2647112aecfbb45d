use Rattle.std.proofs.Common.{map, ltb}
use Rattle.cla_coded.specs.Parts.{part_of}
use Rattle.cla_coded.specs.Places.{AreRowsWritten}
use Rattle.cla_coded.proofs.dense.write_rows.Given as goal

-- the rows before i
abbrev pub invariant-loop-i : goal.invariant-loop-i
invariant-loop-i g l =
    AreRowsWritten (λ r. ltb r l.i) l.shape (part_of g.G.Group.codes g.G.Group.dictionary l.part)
    (map g.N.Number.value l.fn.cells)
    (map g.N.Number.value l.cells)
