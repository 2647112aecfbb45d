use Rattle.std.proofs.Common.{◌<◌, length, map, arith}
use Rattle.cla_layout.specs.Tuples.{tuples_of}
use Rattle.cla_layout.proofs.Tuples.{tuples_count}
use Rattle.cla_layout.proofs.Coded.{value_read}
use Rattle.cla_group.proofs.dictionary.Dictionary.value.Goals as goal

pub returns : goal.returns
returns g c =
    let value = g.N.Number.value in
    let d = c.self.inside in
    let below : c.args.k < length (tuples_of d.width d.tuples (map value d.values.items)) =
    rw (← c.self.view_is) at c.requires.tuple in
    let tuple : c.args.k < d.tuples = omega (arith, below, tuples_count d.width d.tuples (map value d.values.items)) in
    let place : c.args.c < d.width = rw (← c.self.view_is) at c.requires.place in
    rw (← c.self.view_is) (value_read value d.width d.tuples d.values.items c.args.k c.args.c c.index.result.now
    c.self.invariant.whole tuple place c.index.ensures)
