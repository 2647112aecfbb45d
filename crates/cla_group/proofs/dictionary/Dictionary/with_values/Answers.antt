use Rattle.std.proofs.Common.{◌≡◌, ◌*◌, length, map, arith}
use Rattle.cla_layout.specs.Tuples.{tuples_of}
use Rattle.cla_layout.proofs.Tuples.{tuples_count}
use Rattle.cla_group.proofs.Dictionaries.{tuples_are}
use Rattle.cla_group.proofs.dictionary.Dictionary.with_values.Goals as goal

pub returns-clause-are : goal.returns-clause-are
returns-clause-are g c =
    let d = c.self.inside in
    let value = g.N.Number.value in
    let size : length c.args.values.items ≡ length (tuples_of d.width d.tuples (map value d.values.items)) * d.width =
    rw (← c.self.view_is) at c.requires in
    let same : length c.args.values.items ≡ d.tuples * d.width =
    rw (tuples_count d.width d.tuples (map value d.values.items)) at size in
    tuples_are g.N.Number.BITS value g.met.N.Number.in_range d.width d.tuples c.args.values.items
    (record {
      a_column = c.self.invariant.a_column;
      a_tuple = c.self.invariant.a_tuple;
      whole = same;
      few = omega
          (arith, same, c.self.invariant.whole, c.self.invariant.few);
    })
