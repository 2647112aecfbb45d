use Rattle.std.proofs.Common.{◌≡◌, ◌<◌, ◌≤◌, ◌+◌, ◌*ℤ◌, ◌+ℤ◌, ℤ, pos, suc, length, map, ap, subst, sym, ◌∙◌, arith}
use Rattle.std.proofs.Common.{rules}
use Rattle.std.specs.Int.{w128}
use Rattle.std.proofs.lemmas.List.{get_or-map, get_or_default}
use Rattle.std.specs.Int.RustNames.{unsigned_abs, FitsSigned}
use Rattle.cla_num.specs.Bits.{value_bound}
use Rattle.cla_num.proofs.Sizes.{value_size, product_size, fits_by_size}
use Rattle.cla_layout.specs.Groups.{at, code_of, value_of}
use Rattle.cla_layout.proofs.Bounds.{width_few}
use Rattle.cla_coded.specs.Parts.{part_of}
use Rattle.cla_layout.proofs.Wholes.{same_width}
use Rattle.cla_prod.specs.Sums.{tuple_times}
use Rattle.cla_prod.proofs.PartSums.{tuple_times-size}
use Rattle.cla_prod.proofs.scatters.times_tuple.Goals as goal

pub times-requires-clause-fits : goal.times-requires-clause-fits
times-requires-clause-fits g c =
    let bits = g.N.Number.BITS in
    let one = value_size bits (g.N.Number.value c.value.result) c.requires.bits
    (g.met.N.Number.in_range c.value.result) in
    let item : unsigned_abs c.wide-item.result ≤ value_bound = rw c.wide-item.ensures
    (value_size bits (g.N.Number.value _) c.requires.bits (g.met.N.Number.in_range _)) in
    fits_by_size _ (omega (
      arith,
      product_size (g.N.Number.value c.value.result) c.wide-item.result value_bound
          value_bound one item,
    ))

pub loop-c-preserved : goal.loop-c-preserved
loop-c-preserved g c =
    let columns = c.args.part.now.columns.items in
    let items = c.args.items.now in
    let value = g.N.Number.value in
    let tuples = g.G.Group.dictionary c.args.part.now.group in
    let wide = same_width _ _ _ _ _ (g.met.G.Group.laws c.args.part.now.group) c.requires.part.group in
    let col : c.loop-c.c < length columns = omega (arith, c.loop-c-test.true, c.width-c-end.ensures, wide) in
    let column : c.index.result.now ≡ code_of columns c.loop-c.c = c.index.ensures
    ∙ get_or_default columns c.loop-c.c c.index.result.now 0 col in
    let within : c.index.result.now < length items = rw column (c.requires.within c.loop-c.c col) in
    let item : c.wide-item.result ≡ at (map value items) (code_of columns c.loop-c.c) =
    c.wide-item.ensures ∙ ap value c.index-items-index.is ∙ sym (get_or-map value items c.index.result.now
    c.index-items-index.result (pos 0) within) ∙ ap (at (map value items)) column in
    let term : c.times.result ≡ value_of tuples c.args.k c.loop-c.c *ℤ at (map value items)
    (code_of columns c.loop-c.c) = c.times.ensures.product ∙ ap (λ (z : ℤ). z *ℤ c.wide-item.result) c.value.ensures
    ∙ ap (λ (z : ℤ). value_of tuples c.args.k c.loop-c.c *ℤ z) item in
    let next : suc c.loop-c.c ≡ c.loop-c.c + 1 = omega arith in
    record {
      sum = c.plus-sum.ensures ∙ ap (λ (z : ℤ). z +ℤ c.times.result) c.loop-c.invariant.sum ∙ ap
          (λ (z : ℤ). tuple_times tuples columns (map value items) c.args.k c.loop-c.c +ℤ z) term ∙ ap
          (tuple_times tuples columns (map value items) c.args.k) next;
      counts = search rules;
    }

pub plus-sum-requires : goal.plus-sum-requires
plus-sum-requires g c =
    let columns = c.args.part.now.columns.items in
    let items = c.args.items.now in
    let value = g.N.Number.value in
    let tuples = g.G.Group.dictionary c.args.part.now.group in
    let wide = same_width _ _ _ _ _ (g.met.G.Group.laws c.args.part.now.group) c.requires.part.group in
    let col : c.loop-c.c < length columns = omega (arith, c.loop-c-test.true, c.width-c-end.ensures, wide) in
    let column : c.index.result.now ≡ code_of columns c.loop-c.c = c.index.ensures
    ∙ get_or_default columns c.loop-c.c c.index.result.now 0 col in
    let within : c.index.result.now < length items = rw column (c.requires.within c.loop-c.c col) in
    let item : c.wide-item.result ≡ at (map value items) (code_of columns c.loop-c.c) =
    c.wide-item.ensures ∙ ap value c.index-items-index.is ∙ sym (get_or-map value items c.index.result.now
    c.index-items-index.result (pos 0) within) ∙ ap (at (map value items)) column in
    let term : c.times.result ≡ value_of tuples c.args.k c.loop-c.c *ℤ at (map value items)
    (code_of columns c.loop-c.c) = c.times.ensures.product ∙ ap (λ (z : ℤ). z *ℤ c.wide-item.result) c.value.ensures
    ∙ ap (λ (z : ℤ). value_of tuples c.args.k c.loop-c.c *ℤ z) item in
    let sum : c.loop-c.sum +ℤ c.times.result ≡ tuple_times tuples columns (map value items) c.args.k
    (suc c.loop-c.c) = ap (λ (z : ℤ). z +ℤ c.times.result) c.loop-c.invariant.sum ∙ ap
    (λ (z : ℤ). tuple_times tuples columns (map value items) c.args.k c.loop-c.c +ℤ z) term in
    let size = tuple_times-size g.N.Number.BITS value g.met.N.Number.in_range c.requires.bits _
    (part_of g.G.Group.codes g.G.Group.dictionary c.args.part.now) c.requires.part items c.requires.within c.args.k
    (suc c.loop-c.c) c.requires.tuple (omega (arith, col)) in
    let few = width_few _ _ _ _ c.requires.part.group in
    subst (FitsSigned w128) (sym sum) (fits_by_size _ (omega (arith, size, few, col)))

pub returns-clause-product : goal.returns-clause-product
returns-clause-product g c =
    let wide = same_width _ _ _ _ _ (g.met.G.Group.laws c.args.part.now.group) c.requires.part.group in
    let all : c.loop-c.c ≡ length c.args.part.now.columns.items = omega
    (arith, c.loop-c-test.false, c.width-c-end.ensures, c.loop-c.auto.c-end, wide) in
    c.loop-c.invariant.sum ∙ ap (tuple_times (g.G.Group.dictionary c.args.part.now.group)
    c.args.part.now.columns.items (map g.N.Number.value c.args.items.now) c.args.k) all

pub returns-clause-counts : goal.returns-clause-counts
returns-clause-counts g c =
    let wide = same_width _ _ _ _ _ (g.met.G.Group.laws c.args.part.now.group) c.requires.part.group in
    let all : c.loop-c.c ≡ length c.args.part.now.columns.items = omega
    (arith, c.loop-c-test.false, c.width-c-end.ensures, c.loop-c.auto.c-end, wide) in
    rw (sym all) c.loop-c.invariant.counts
