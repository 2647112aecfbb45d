use Rattle.std.proofs.Common.{◌<◌, ℕ, ℤ, length, map, arith}
use Rattle.std.proofs.lemmas.List.{map-set, length-map}
use Rattle.cla_layout.specs.Groups.{value_of}
use Rattle.cla_layout.specs.GroupLaws.{IsExtreme}
use Rattle.cla_agg.proofs.Spread.{set_more}
use Rattle.cla_agg.proofs.rows.read_group.Goals as goal

pub loop-k-preserved : goal.loop-k-preserved
loop-k-preserved g c =
    let tuples = g.G.Group.dictionary c.args.g.now in
    let width = g.G.Group.columns c.args.g.now in
    let value = g.N.Number.value in
    let k = c.loop-k.k in
    let there : k < length (map value c.loop-k.firsts) = omega (
      arith,
      c.loop-k-test.true,
      c.tuples-k-end.ensures,
      c.loop-k.auto.firsts,
      c.requires.tuples,
      length-map c.loop-k.firsts value,
    ) in
    rw (map-set value c.loop-k.firsts k c.first_of_tuple.result)
    (set_more (λ (t : ℕ) (v : ℤ). IsExtreme g.O.Order.before (value_of tuples t) width v) (map value c.loop-k.firsts) k
    (value c.first_of_tuple.result) there c.first_of_tuple.ensures c.loop-k.invariant)
