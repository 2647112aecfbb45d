use Rattle.std.proofs.Common.{map}
use Rattle.cla_coded.specs.Parts.{parts_of}
use Rattle.cla_coded.proofs.DenseLaws.{PartsWrittenTo}
use Rattle.cla_coded.proofs.dense.write_parts.Given as goal

-- the columns of the parts so far
abbrev pub invariant-loop-part : goal.invariant-loop-part
invariant-loop-part g l =
    PartsWrittenTo l.shape (parts_of g.G.Group.codes g.G.Group.dictionary l.parts) l.part-index
    (map g.N.Number.value l.cells)
