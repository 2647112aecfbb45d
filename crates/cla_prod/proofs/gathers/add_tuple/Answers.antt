use Rattle.std.proofs.Common.{◌≡◌, ◌<◌, ◌≤◌, ◌+◌, ◌-◌, ◌+ℤ◌, ◌*ℤ◌, ℕ, ℤ, pos, length, ap, subst, sym, ◌∙◌, arith}
use Rattle.std.specs.Int.{w128}
use Rattle.std.specs.Int.RustNames.{FitsSigned}
use Rattle.std.proofs.lemmas.List.{get_or_default}
use Rattle.cla_layout.specs.Groups.{at, value_of}
use Rattle.cla_layout.specs.Layouts.{column_at}
use Rattle.cla_layout.proofs.Columns.{column_read}
use Rattle.cla_layout.proofs.Wholes.{same_width}
use Rattle.cla_prod.specs.Sums.{AreSet}
use Rattle.cla_prod.proofs.ColumnsSet.{not_yet, set_step}
use Rattle.cla_prod.proofs.gathers.add_tuple.Goals as goal

pub plus-requires : goal.plus-requires
plus-requires g c =
    let part = c.args.part.now in
    let columns = part.columns.items in
    let tuples = g.G.Group.dictionary part.group in
    let old = c.args.sums.now in
    let now = c.loop-c.sums in
    let value = λ (d : ℕ). at old (column_at columns d) +ℤ value_of tuples c.args.k d *ℤ c.args.w in
    let wide = same_width _ _ _ _ _ (g.met.G.Group.laws part.group) c.requires.part.group in
    let there : c.loop-c.c < length columns = omega (arith, c.loop-c-test.true, c.width-c-end.ensures, wide) in
    let column : c.index.result.now ≡ column_at columns c.loop-c.c = column_read columns c.loop-c.c
    c.index.result.now c.index.ensures there in
    let within : c.index.result.now < length now = rw column (omega (
      arith,
      c.requires.within c.loop-c.c there,
      c.loop-c.auto.sums,
    )) in
    let item : c.index-sums-j.result ≡ at old (column_at columns c.loop-c.c) =
    c.index-sums-j.is ∙ get_or_default now c.index.result.now c.index-sums-j.result (pos 0) within ∙ ap (at now) column
    ∙ not_yet c.args.first c.loop-c.c columns value old now c.requires.part.rising there c.loop-c.invariant.sums in
    let product : c.times.result ≡ value_of tuples c.args.k c.loop-c.c *ℤ c.args.w =
    c.times.ensures.product ∙ ap (λ (z : ℤ). z *ℤ c.args.w) c.value.ensures in
    let sum : c.index-sums-j.result +ℤ c.times.result ≡ value c.loop-c.c =
    ap (λ (z : ℤ). z +ℤ c.times.result) item ∙ ap (λ (z : ℤ). at old (column_at columns c.loop-c.c) +ℤ z) product in
    subst (FitsSigned w128) (sym sum) (c.requires.sums c.loop-c.c c.loop-c.auto.c there)

pub loop-c-preserved : goal.loop-c-preserved
loop-c-preserved g c =
    let part = c.args.part.now in
    let columns = part.columns.items in
    let tuples = g.G.Group.dictionary part.group in
    let old = c.args.sums.now in
    let now = c.loop-c.sums in
    let value = λ (d : ℕ). at old (column_at columns d) +ℤ value_of tuples c.args.k d *ℤ c.args.w in
    let wide = same_width _ _ _ _ _ (g.met.G.Group.laws part.group) c.requires.part.group in
    let there : c.loop-c.c < length columns = omega (arith, c.loop-c-test.true, c.width-c-end.ensures, wide) in
    let column : c.index.result.now ≡ column_at columns c.loop-c.c = column_read columns c.loop-c.c
    c.index.result.now c.index.ensures there in
    let within : c.index.result.now < length now = rw column (omega (
      arith,
      c.requires.within c.loop-c.c there,
      c.loop-c.auto.sums,
    )) in
    let item : c.index-sums-j.result ≡ at old (column_at columns c.loop-c.c) =
    c.index-sums-j.is ∙ get_or_default now c.index.result.now c.index-sums-j.result (pos 0) within ∙ ap (at now) column
    ∙ not_yet c.args.first c.loop-c.c columns value old now c.requires.part.rising there c.loop-c.invariant.sums in
    let product : c.times.result ≡ value_of tuples c.args.k c.loop-c.c *ℤ c.args.w =
    c.times.ensures.product ∙ ap (λ (z : ℤ). z *ℤ c.args.w) c.value.ensures in
    let sum : c.plus.result ≡ value c.loop-c.c =
    c.plus.ensures ∙ ap (λ (z : ℤ). z +ℤ c.times.result) item ∙ ap (λ (z : ℤ). at old
    (column_at columns c.loop-c.c) +ℤ z) product in
    let past : c.args.first ≤ c.loop-c.c = c.loop-c.auto.c in
    let more : c.args.meter.now.mults + (c.loop-c.c - c.args.first) + 1 ≡ c.args.meter.now.mults +
    (c.loop-c.c + 1 - c.args.first) = omega (arith, past) in
    record {
      sums = set_step c.args.first c.loop-c.c c.index.result.now columns value old now c.plus.result
          c.requires.part.rising past there column within
          sum c.loop-c.invariant.sums;
      counts = rw (c.times.ensures.counts, c.loop-c.invariant.counts) (ap
          (λ (n : ℕ). record c.args.meter.now { mults = n }) more);
    }

pub returns-clause-sums : goal.returns-clause-sums
returns-clause-sums g c =
    let part = c.args.part.now in
    let columns = part.columns.items in
    let tuples = g.G.Group.dictionary part.group in
    let old = c.args.sums.now in
    let wide = same_width _ _ _ _ _ (g.met.G.Group.laws part.group) c.requires.part.group in
    let all : c.loop-c.c ≡ length columns = omega (
      arith,
      c.loop-c-test.false,
      c.width-c-end.ensures,
      c.loop-c.auto.c-end,
      c.requires.place,
      wide,
    ) in
    subst (λ (n : ℕ). AreSet c.args.first n columns (λ d. at old (column_at columns d) +ℤ value_of tuples c.args.k d
    *ℤ c.args.w) old c.loop-c.sums)
    all c.loop-c.invariant.sums
