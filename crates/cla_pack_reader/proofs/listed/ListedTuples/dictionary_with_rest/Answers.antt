use Rattle.std.proofs.Common.{◌≡◌, ◌≤◌, ◌*◌, ◌++◌, pos, List, length, map, take, drop, replicate, mul-le-mul_right}
use Rattle.std.proofs.Common.{arith, ap, subst}
use Rattle.cla_packed.specs.Rests.{with_rest}
use Rattle.cla_pack_reader.proofs.ListedCodes.{rest_fits, rest_few, rest_size, rest_codes, dictionary_beside_rest}
use Rattle.cla_pack_reader.proofs.listed.ListedTuples.dictionary_with_rest.Goals as goal

pub put_zeros-requires-clause-within : goal.put_zeros-requires-clause-within
put_zeros-requires-clause-within g c =
    let w = c.requires.owners in
    let d = c.args.self.count in
    let width = c.args.width in
    let fits = rest_fits w.0 width d c.args.r w.1 w.2 w.3 w.4 w.5 in
    let near : c.args.r * width ≤ d * width = mul-le-mul_right width fits.within in
    omega (
      arith,
      near,
      c.requires.tuples.whole,
      ap (λ (l : List g.row.N.Denot). length l) c.deref.ensures.value,
    )

pub put_zeros-requires-clause-few : goal.put_zeros-requires-clause-few
put_zeros-requires-clause-few g c =
    let w = c.requires.owners in
    let d = c.args.self.count in
    let width = c.args.width in
    let few = rest_few w.0 width d c.args.r w.1 w.2 w.3 w.4 w.5 in
    let le : d ≤ w.0 = omega (arith, few) in
    let near : d * width ≤ w.0 * width = mul-le-mul_right width le in
    omega (
      arith,
      near,
      w.3.few,
      c.requires.tuples.whole,
      ap (λ (l : List g.row.N.Denot). length l) c.deref.ensures.value,
    )

pub of_values-requires : goal.of_values-requires
of_values-requires g c =
    let w = c.requires.owners in
    let d = c.args.self.count in
    let width = c.args.width in
    let r = c.args.r in
    let value = g.N.Number.value in
    let values = c.args.self.values.items in
    let new = c.in_ok-values.values.items in
    let fits = rest_fits w.0 width d r w.1 w.2 w.3 w.4 w.5 in
    let new_is = subst (λ (l : List g.row.N.Denot). map value new ≡ take (r * width) (map value l)
    ++ (replicate width (pos 0) ++ drop (r * width) (map value l))) c.deref.ensures.value c.in_ok-values.ensures in
    let count = rest_size value width d values c.requires.tuples r new fits.within new_is in
    (map (with_rest d r) w.2, rest_codes w.0 width d r w.1 w.2 w.3 w.4 w.5 (length new) count)

pub returns : goal.returns
returns g c rows first owners cells h r_is =
    let d = c.args.self.count in
    let width = c.args.width in
    let r = c.args.r in
    let value = g.N.Number.value in
    let values = c.args.self.values.items in
    let new = c.in_ok-values.values.items in
    let new_is = subst (λ (l : List g.row.N.Denot). map value new ≡ take (r * width) (map value l)
    ++ (replicate width (pos 0) ++ drop (r * width) (map value l))) c.deref.ensures.value c.in_ok-values.ensures in
    dictionary_beside_rest value width d values c.requires.tuples g.N.Number.BITS rows r first owners new
    c.of_values.result cells h r_is new_is c.of_values.ensures.value c.of_values.ensures.group
