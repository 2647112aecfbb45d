use Rattle.std.proofs.Common.{map, length, ap, ◌∙◌, arith}
use Rattle.cla_stats.proofs.Columns.{entries-count, shaped, few-rows}
use Rattle.cla_stats.proofs.coded.code_column.Goals as goal

pub code_entries-requires : goal.code_entries-requires
code_entries-requires g c =
    let value = g.N.Number.value in
    let m = c.args.m.now in
    let rows = entries-count value m c.args.column c.in_ok-items.items.items c.in_ok-items.ensures in
    let shape = shaped value m c.cells.result.now c.cells.ensures.cells c.cells.ensures.shape in
    record { few = omega (arith, ap length c.deref.ensures.value, rows, few-rows m shape) }

pub returns-clause-tuples : goal.returns-clause-tuples
returns-clause-tuples g c = c.in_ok-coded.ensures c.args.m.now c.args.column
    (ap (map g.N.Number.value) c.deref.ensures.value ∙ c.in_ok-items.ensures)

pub returns-clause-shape : goal.returns-clause-shape
returns-clause-shape g c =
    shaped g.N.Number.value c.args.m.now c.cells.result.now c.cells.ensures.cells c.cells.ensures.shape
