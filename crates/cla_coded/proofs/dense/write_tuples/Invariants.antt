use Rattle.std.proofs.Common.{map, ltb}
use Rattle.cla_layout.specs.Groups.{code_of}
use Rattle.cla_coded.specs.Parts.{part_of}
use Rattle.cla_coded.specs.Places.{AreRowsWritten}
use Rattle.cla_coded.proofs.dense.write_tuples.Given as goal

-- the rows of the tuples before k
abbrev pub invariant-loop-k : goal.invariant-loop-k
invariant-loop-k g l =
    AreRowsWritten (λ r. ltb (code_of (g.G.Group.codes l.part.group) r) l.k) l.shape
    (part_of g.G.Group.codes g.G.Group.dictionary l.part)
    (map g.N.Number.value l.fn.cells) (map g.N.Number.value l.cells)
