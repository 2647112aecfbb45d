use Rattle.std.proofs.Common.{◌≡◌, ◌<◌, ℕ, length, ap, ◌∙◌, arith, inl, inr}
use Rattle.std.proofs.lemmas.Bool.{cases_eq}
use Rattle.cla_layout.specs.Layouts.{LayoutPart, part_at}
use Rattle.cla_coded.specs.Parts.{parts_of}
use Rattle.cla_coded.proofs.Outlines.{part_of_item, parts_count}
use Rattle.cla_prod.proofs.lines.most_tuples.Goals as goal

pub loop-part-preserved : goal.loop-part-preserved
loop-part-preserved g c q lt =
    let items = c.args.parts.now in
    let parts = parts_of g.G.Group.codes g.G.Group.dictionary items in
    let p = c.loop-part.part-index in
    let is = part_of_item g.G.Group.codes g.G.Group.dictionary items p c.part-item.result c.loop-part-test.true
    c.part-item.is in
    elim (cases_eq q p) [
      | inl same ↦
          let tuples : length (part_at parts q).tuples ≡ length (g.G.Group.dictionary c.part-item.result.group) =
          ap (λ (k : ℕ). length (part_at parts k).tuples) same ∙ ap (λ (part : LayoutPart). length part.tuples) is in
          omega (arith, tuples, c.tuples.ensures, c.max-most.ensures)
      | inr other ↦
          let early : q < p = grind (arith, lt, other) in
          omega (arith, c.loop-part.invariant q early, c.max-most.ensures)
    ]

pub returns : goal.returns
returns g c q there =
    let items = c.args.parts.now in
    c.loop-part.invariant q (omega (
      arith,
      there,
      parts_count g.G.Group.codes g.G.Group.dictionary items,
      c.loop-part-test.false,
    ))
