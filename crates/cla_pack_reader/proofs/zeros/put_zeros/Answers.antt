use Rattle.std.proofs.Common.{◌≡◌, ◌≤◌, ◌+◌, ◌-◌, ◌++◌, List, length, map, take, drop, replicate, ap, ◌∙◌, arith}
use Rattle.std.proofs.lemmas.List.{length-take, take_all, take_rest}
use Rattle.cla_pack_reader.proofs.ZeroLaws.{zeros_put}
use Rattle.cla_pack_reader.proofs.zeros.put_zeros.Goals as goal

pub returns : goal.returns
returns g c =
    let value = g.N.Number.value in
    let values = c.args.values.now in
    let place = c.args.place in
    let n = c.args.n in
    let zero = c.zero.result in
    let all = c.in_ok-all.all.items in
    let front : all ≡ take place values = c.in_ok-all.ensures.items in
    let size : c.in_ok-all.all.len ≡ place = c.in_ok-all.ensures.len ∙ length-take place values
    ∙ omega (arith, c.requires.within) in
    let few : length all ≤ place + n = omega (
      arith,
      ap (λ (l : List g.row.N.Denot). length l) front,
      length-take place values,
    ) in
    let rest : take (length values - place) (drop place values) ≡ drop place values = take_rest values place in
    let filled : c.resize.new.self.items ≡ take place values ++ replicate (place + n - c.in_ok-all.all.len) zero =
    c.in_ok-resize.ensures.items
    ∙ ap (λ (l : List g.row.N.Denot). l ++ replicate (place + n - c.in_ok-all.all.len) zero)
    (take_all (place + n) all few ∙ front) in
    ap (map value) (c.in_ok-extend_from_slice.ensures.items
    ∙ ap (λ (l : List g.row.N.Denot). l ++ take (length values - place) (drop place values)) filled
    ∙ ap (λ (l : List g.row.N.Denot).
    (take place values ++ replicate (place + n - c.in_ok-all.all.len) zero) ++ l) rest)
    ∙ zeros_put value values place n (place + n - c.in_ok-all.all.len) zero c.requires.within c.zero.ensures
    (omega (arith, size))
