use Rattle.std.proofs.Common.{◌<◌, length, map, arith}
use Rattle.std.proofs.lemmas.List.{map-set, length-map}
use Rattle.cla_spec.specs.Matrix.{entry}
use Rattle.cla_prod.proofs.LinesWritten.{item_step}
use Rattle.cla_prod.proofs.lines.copy_column.Goals as goal

pub loop-i-preserved : goal.loop-i-preserved
loop-i-preserved g c =
    let value = g.N.Number.value in
    let i = c.loop-i.i in
    let there : i < length (map value c.loop-i.column) =
    omega (
      arith,
      length-map c.loop-i.column value,
      c.loop-i.auto.column,
      c.requires.rows,
      c.loop-i-test.true,
      c.rows-i-end.ensures,
    ) in
    rw (map-set value c.loop-i.column i c.entry.result)
    (item_step i (λ r. entry c.args.m.now r c.args.j) (map value c.loop-i.column)
    (value c.entry.result) there c.entry.ensures c.loop-i.invariant)
