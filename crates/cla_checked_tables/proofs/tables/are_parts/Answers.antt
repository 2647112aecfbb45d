use Rattle.std.proofs.Common.{◌≡◌, map, refl, ap, sym, subst, ◌∙◌, below_more}
use Rattle.std.proofs.lemmas.List.{get_or-map}
use Rattle.cla_layout.specs.Layouts.{LayoutPart, IsPart, part_at, no_part}
use Rattle.cla_coded.specs.Parts.{part_of}
use Rattle.cla_checked_tables.proofs.tables.are_parts.Goals as goal

pub loop-part-preserved : goal.loop-part-preserved
loop-part-preserved g c =
    let f = part_of g.G.Group.codes g.G.Group.dictionary in
    let part = c.part-item.result in
    let at : part_at (map f c.args.parts.now) c.loop-part.part-index ≡ f part =
    get_or-map f c.args.parts.now c.loop-part.part-index part no_part c.loop-part-test.true
    ∙ ap f (sym c.part-item.is) in
    below_more _ _ c.loop-part.invariant (subst (λ (p : LayoutPart). IsPart 47 c.args.rows p) (sym at)
    (c.if-not-is_part.ensures refl))
