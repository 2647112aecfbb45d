use Rattle.std.proofs.Common.{◌≡◌, ◌<◌, length, map, ◌∙◌, arith}
use Rattle.std.proofs.lemmas.List.{map-set, length-map}
use Rattle.cla_layout.specs.Groups.{value_of}
use Rattle.cla_layout.specs.Layouts.{column_at}
use Rattle.cla_layout.proofs.Columns.{column_read}
use Rattle.cla_coded.proofs.CellPlaces.{column_step}
use Rattle.cla_layout.proofs.Wholes.{same_width}
use Rattle.cla_coded.proofs.dense.write_row.Goals as goal

pub loop-c-preserved : goal.loop-c-preserved
loop-c-preserved g c =
    let part = c.args.part.now in
    let columns = part.columns.items in
    let value = g.N.Number.value in
    let width = same_width _ _ _ _ _ c.requires.part.is.group (g.met.G.Group.laws part.group) in
    let there : c.loop-c.c < length columns = omega (arith, width, c.loop-c-test.true, c.width-c-end.ensures) in
    let column : c.index.result.now ≡ column_at columns c.loop-c.c =
    column_read columns c.loop-c.c c.index.result.now c.index.ensures there in
    rw (map-set value c.loop-c.cells c.place.result c.value.result)
    (column_step c.args.shape columns (value_of (g.G.Group.dictionary part.group) c.args.k) c.args.i c.loop-c.c
    c.place.result
    (value c.value.result) (map value c.args.cells.now) (map value c.loop-c.cells)
    c.requires.part.is.rising there c.requires.row (c.requires.part.columns c.loop-c.c there)
    (rw column at c.place.ensures.place) c.value.ensures
    (length-map c.loop-c.cells value ∙ c.loop-c.auto.cells ∙ c.requires.cells.count) c.loop-c.invariant)
