use Rattle.std.proofs.Common.{◌<◌, length, map, subst, sym}
use Rattle.cla_layout.specs.Layouts.{LayoutPart}
use Rattle.cla_coded.specs.Parts.{parts_of}
use Rattle.cla_coded.specs.Places.{IsPartWritten}
use Rattle.cla_coded.proofs.Outlines.{part_of_item, parts_count}
use Rattle.cla_coded.proofs.DenseLaws.{part_in, parts_step, all_written}
use Rattle.cla_coded.proofs.dense.write_parts.Goals as goal

pub write_part-requires-clause-part : goal.write_part-requires-clause-part
write_part-requires-clause-part g c =
    let items = c.args.parts.now in
    let is = part_of_item g.G.Group.codes g.G.Group.dictionary items c.loop-part.part-index c.part-item.result
    c.loop-part-test.true
    c.part-item.is in
    let there : c.loop-part.part-index < length (parts_of g.G.Group.codes g.G.Group.dictionary items) =
    rw (parts_count g.G.Group.codes g.G.Group.dictionary items) c.loop-part-test.true in
    rw is at (part_in g.N.Number.BITS c.args.shape
    (parts_of g.G.Group.codes g.G.Group.dictionary items) c.loop-part.part-index c.requires.whole there)

pub loop-part-preserved : goal.loop-part-preserved
loop-part-preserved g c =
    let items = c.args.parts.now in
    let value = g.N.Number.value in
    let parts = parts_of g.G.Group.codes g.G.Group.dictionary items in
    let within : c.loop-part.part-index < length parts =
    rw (parts_count g.G.Group.codes g.G.Group.dictionary items) c.loop-part-test.true in
    let is = part_of_item g.G.Group.codes g.G.Group.dictionary items c.loop-part.part-index c.part-item.result
    c.loop-part-test.true
    c.part-item.is in
    let old = map value c.loop-part.cells in
    let new = map value c.write_part.new.cells in
    parts_step g.N.Number.BITS c.args.shape parts c.loop-part.part-index old new c.requires.whole within
    (subst (λ (part : LayoutPart). IsPartWritten c.args.shape part old new) (sym is) c.write_part.ensures)
    c.loop-part.invariant

pub returns : goal.returns
returns g c =
    let items = c.args.parts.now in
    all_written g.N.Number.BITS c.args.shape (parts_of g.G.Group.codes g.G.Group.dictionary items)
    c.loop-part.part-index
    (map g.N.Number.value c.loop-part.cells) c.requires.whole
    (rw (parts_count g.G.Group.codes g.G.Group.dictionary items) c.loop-part-test.false) c.loop-part.invariant
