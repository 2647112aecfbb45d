use Rattle.std.proofs.Common.{map, arith}
use Rattle.cla_layout.proofs.Regroup.{first_row_there}
use Rattle.cla_coded.specs.Parts.{part_of}
use Rattle.cla_coded.proofs.CellPlaces.{tuple_step}
use Rattle.cla_coded.proofs.dense.write_tuples.Goals as goal

pub write_row-requires-clause-row : goal.write_row-requires-clause-row
write_row-requires-clause-row g c =
    let is = c.requires.part.is in
    omega (
      arith,
      c.first_row.ensures,
      is.a_code_each,
      first_row_there (g.G.Group.codes c.args.part.now.group) c.loop-k.k
          (is.group.used c.loop-k.k (omega (arith, c.loop-k-test.true, c.requires.own))),
    )

pub loop-k-preserved : goal.loop-k-preserved
loop-k-preserved g c =
    let part = part_of g.G.Group.codes g.G.Group.dictionary c.args.part.now in
    let value = g.N.Number.value in
    tuple_step g.N.Number.BITS c.args.shape part c.loop-k.k c.first_row.result (map value c.args.cells.now)
    (map value c.loop-k.cells)
    (map value c.write_row.new.cells) c.requires.part.is c.requires.own
    (omega (arith, c.loop-k-test.true, c.requires.own)) c.first_row.ensures c.write_row.ensures c.loop-k.invariant
