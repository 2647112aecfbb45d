use Rattle.std.proofs.Common.{ap, sym, ◌∙◌, ◌+ℤ◌, ℤ, pos, arith}
use Rattle.std.specs.Int.RustNames.{unsigned_abs}
use Rattle.std.proofs.lemmas.List.{get_or-map}
use Rattle.cla_num.proofs.Sizes.{value_size, plus_size, fits_by_size}
use Rattle.cla_group.proofs.items.with_item.Goals as goal

pub plus-requires : goal.plus-requires
plus-requires g c =
    let item = value_size _ (g.N.Number.value c.index-rows-i.result) c.requires.bits
    (g.met.N.Number.in_range c.index-rows-i.result) in
    let sum = plus_size c.args.sum c.wide.result in
    fits_by_size _ (omega (
      arith,
      sum,
      ap unsigned_abs c.wide.ensures,
      item,
      c.requires.size,
      c.requires.row,
      c.requires.few,
    ))

pub returns-clause-sum : goal.returns-clause-sum
returns-clause-sum g c =
    let value = g.N.Number.value in
    c.plus.ensures ∙ ap (λ (z : ℤ). c.args.sum +ℤ z) (c.wide.ensures ∙ ap value c.index-rows-i.is
    ∙ sym (get_or-map value c.args.rows.now c.args.i c.index-rows-i.result (pos 0) c.requires.row))

pub returns-clause-size : goal.returns-clause-size
returns-clause-size g c =
    let item = value_size _ (g.N.Number.value c.index-rows-i.result) c.requires.bits
    (g.met.N.Number.in_range c.index-rows-i.result) in
    let sum = plus_size c.args.sum c.wide.result in
    omega (arith, ap unsigned_abs c.plus.ensures, sum, ap unsigned_abs c.wide.ensures, item, c.requires.size)
