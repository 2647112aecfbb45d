use Rattle.std.proofs.Common.{◌≡◌, ◌<◌, length, sym, arith, rules}
use Rattle.cla_num.proofs.Sizes.{plus_size, fits_by_size}
use Rattle.cla_layout.specs.Groups.{at, code_of}
use Rattle.cla_group_tests.proofs.Smalls.{AreSmall}
use Rattle.cla_group_tests.proofs.group_calls.joined_by.Goals as goal

pub scatter-requires-clause-fits : goal.scatter-requires-clause-fits
scatter-requires-clause-fits g c =
    let laws = g.met.G.Group.laws c.args.g.now in
    let parts : AreSmall c.deref-in-Sum.result.now =
    rw (sym c.deref-in-Sum.ensures.value) at c.in_ok-parts.ensures.small in
    let sums : AreSmall c.deref_mut.result.now = rw (sym c.deref_mut.ensures.value) at c.in_ok-places.ensures.small in
    let tuples : length c.deref-in-Sum.result.now ≡ length (g.G.Group.dictionary c.args.g.now) = search rules in
    let rows : length c.deref_mut.result.now ≡ length (g.G.Group.codes c.args.g.now) = search rules in
    λ i row.
    (let code : code_of (g.G.Group.codes c.args.g.now) i < length c.deref-in-Sum.result.now = omega (
      arith,
      laws.in_tuples i (omega (arith, row, rows)),
      tuples,
    ) in
    fits_by_size _
    (omega (
      arith,
      plus_size (at c.deref_mut.result.now i)
          (at c.deref-in-Sum.result.now (code_of (g.G.Group.codes c.args.g.now) i)),
      sums i row,
      parts (code_of (g.G.Group.codes c.args.g.now) i) code,
    )))
