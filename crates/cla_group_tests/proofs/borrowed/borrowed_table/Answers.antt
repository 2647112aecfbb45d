use Rattle.std.proofs.Common.{map, ap, ◌∙◌}
use Rattle.cla_coded.specs.Outlines.{outline}
use Rattle.cla_coded.proofs.Outlines.{mapped_more, mapped_all, whole_with}
use Rattle.cla_group_tests.proofs.borrowed.borrowed_table.Goals as goal

pub loop-part-preserved : goal.loop-part-preserved
loop-part-preserved g c =
    rw c.in_ok-push.ensures.items
    (mapped_more (outline g.G.Group.columns g.G.Group.codes)
    (outline (λ p. p.dictionary.width) (λ p. g.G.Group.codes p.of.now)) c.parts-part-items.result.now
    c.loop-part.part-index
    c.part-item.result
    c.loop-part.parts.items c.in_ok-borrowed_part.field-0 c.loop-part-test.true c.part-item.is c.loop-part.invariant
    c.in_ok-borrowed_part.ensures)

pub new-requires : goal.new-requires
new-requires g c =
    let m = c.args.m.now in
    let same = mapped_all (outline g.G.Group.columns g.G.Group.codes)
    (outline (λ p. p.dictionary.width) (λ p. g.G.Group.codes p.of.now)) c.parts-part-items.result.now
    c.loop-part.part-index
    c.loop-part.parts.items
    c.loop-part-test.false c.loop-part.invariant
    ∙ ap (map (outline g.G.Group.columns g.G.Group.codes)) c.parts-part-items.ensures.parts in
    rw (c.base_shape-rows.ensures.rows, c.base_shape-rows.ensures.cols)
    (whole_with g.N.Number.BITS m.rows m.cols g.G.Group.columns g.G.Group.codes g.G.Group.dictionary
    (λ p. p.dictionary.width)
    (λ p. g.G.Group.codes p.of.now) (λ p. p.dictionary.tuples) g.met.G.Group.laws
    (λ p. p.is) m.parts c.loop-part.parts.items same
    c.parts-part-items.ensures.whole)
