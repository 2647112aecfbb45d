use Rattle.std.proofs.Common.{map, ◌∙◌, ap}
use Rattle.std.proofs.lemmas.List.{length-map}
use Rattle.cla_coded.specs.Parts.{parts_of}
use Rattle.cla_coded.specs.Tables.{matrix_of}
use Rattle.cla_coded.proofs.DenseLaws.{dense_shape, dense_is}
use Rattle.cla_coded.proofs.table.Table.to_dense.Goals as goal

pub new-requires : goal.new-requires
new-requires g c =
    let t = c.self.inside in
    dense_shape g.N.Number.BITS (record { rows = t.rows; cols = t.cols; flipped = t.flipped })
    (parts_of g.G.Group.codes g.G.Group.dictionary t.parts.items) c.in_ok-cells.cells.items c.rows.result c.cols.result
    c.self.invariant c.in_ok-cells.ensures.count (rw (← c.self.view_is) at c.rows.ensures)
    (rw (← c.self.view_is) at c.cols.ensures)

pub returns : goal.returns
returns g c =
    let t = c.self.inside in
    let cells = c.in_ok-cells.cells.items in
    let value = g.N.Number.value in
    let entries = rw c.deref.ensures.value at c.in_ok-cells.ensures.entries in
    c.new.ensures
    ∙ dense_is g.N.Number.BITS (record { rows = t.rows; cols = t.cols; flipped = t.flipped })
    (parts_of g.G.Group.codes g.G.Group.dictionary t.parts.items) (map value cells) c.rows.result c.cols.result
    c.self.invariant (length-map cells value ∙ c.in_ok-cells.ensures.count) entries
    (rw (← c.self.view_is) at c.rows.ensures)
    (rw (← c.self.view_is) at c.cols.ensures)
    ∙ ap (matrix_of g.G.Group.codes g.G.Group.dictionary) c.self.view_is
