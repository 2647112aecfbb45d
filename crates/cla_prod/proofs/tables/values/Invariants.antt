use Rattle.std.proofs.Common.{◌≡◌, take}
use Rattle.cla_layout.specs.Values.{values_of}
use Rattle.cla_coded.specs.Parts.{parts_of}
use Rattle.cla_prod.proofs.tables.values.Given as goal

-- the parts so far
abbrev pub invariant-loop-part : goal.invariant-loop-part
invariant-loop-part g l = l.count ≡ values_of (take l.part-index (parts_of g.G.Group.codes g.G.Group.dictionary
    l.m.parts))
