use Rattle.std.proofs.Common.{◌≡◌, map, take}
use Rattle.cla_coded.specs.Outlines.{outline}
use Rattle.cla_group_tests.proofs.borrowed.borrowed_table.Given as goal

-- the parts so far
abbrev pub invariant-loop-part : goal.invariant-loop-part
invariant-loop-part g l =
    map (outline (λ p. p.dictionary.width) (λ p. g.G.Group.codes p.of.now)) l.parts.items
    ≡ take l.part-index (map (outline g.G.Group.columns g.G.Group.codes) l.part-items)
