use Rattle.cla_table.proofs.TableLaws.{few_cells, dense_cells, if_ok_both}
use Rattle.cla_table.proofs.sums.into_cells.Goals as goal

pub returns-in-Few-clause-cells : goal.returns-in-Few-clause-cells
returns-in-Few-clause-cells g c =
    let flat = c.by_rows.ensures in
    rw c.in-Few.is (if_ok_both c.spread.result
    (λ cells count same. few_cells g.N.Number.value c.args.grid c.by_rows.result c.in-Few.few.entries cells.items
    flat.rows flat.cols flat.shift count same) c.spread.ensures.count c.spread.ensures.sums)

pub returns-in-Dense-clause-cells : goal.returns-in-Dense-clause-cells
returns-in-Dense-clause-cells g c =
    rw c.in-Dense.is (if_ok_both c.row_by_row.result
    (λ cells count turned. dense_cells g.N.Number.value c.args.grid c.in-Dense.cells.items cells.items
    (rw c.in-Dense.is at c.requires.whole) count turned) c.row_by_row.ensures.count c.row_by_row.ensures.turned)
