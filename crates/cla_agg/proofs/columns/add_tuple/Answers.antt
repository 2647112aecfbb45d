use Rattle.std.proofs.Common.{◌≡◌, ◌<◌, ◌+◌, ◌+ℤ◌, ◌*ℤ◌, ℕ, ℤ, pos, suc, length, ap, subst, sym, ◌∙◌, arith, rules}
use Rattle.std.proofs.lemmas.List.{get_or_default}
use Rattle.std.specs.Int.{w128}
use Rattle.std.specs.Int.RustNames.{FitsSigned}
use Rattle.cla_spec.specs.Numbers.{sum_to}
use Rattle.cla_num.proofs.Sizes.{fits_by_size}
use Rattle.cla_layout.specs.Groups.{at, value_of, occurrences_of}
use Rattle.cla_layout.specs.Layouts.{column_at}
use Rattle.cla_layout.proofs.Cells.{occurring, occurring_size}
use Rattle.cla_layout.proofs.Columns.{column_read}
use Rattle.cla_layout.proofs.Wholes.{same_width}
use Rattle.cla_coded.specs.Parts.{part_of}
use Rattle.cla_agg.proofs.Placed.{IsPlaceOf, added_here, column_size}
use Rattle.cla_agg.proofs.columns.add_tuple.Goals as goal

pub bounds-into-place : goal.bounds-into-place
bounds-into-place g c =
    let codes = g.G.Group.codes c.args.part.now.group in
    let tuples = g.G.Group.dictionary c.args.part.now.group in
    let part = part_of g.G.Group.codes g.G.Group.dictionary c.args.part.now in
    let wide = same_width _ _ _ _ _ (g.met.G.Group.laws c.args.part.now.group) c.requires.part.group in
    let col : c.loop-c.c < length part.columns = omega (arith, c.loop-c-test.true, c.width-c-end.ensures, wide) in
    let column : c.index.result.now ≡ column_at part.columns c.loop-c.c =
    column_read part.columns c.loop-c.c c.index.result.now c.index.ensures col in
    let within : c.index.result.now < length c.loop-c.into =
    rw column (omega (arith, c.requires.within c.loop-c.c col, c.loop-c.auto.into)) in
    within

pub times-requires-clause-fits : goal.times-requires-clause-fits
times-requires-clause-fits g c =
    let laws = g.met.G.Group.laws c.args.part.now.group in
    rw (c.value.ensures, c.count-count.ensures, c.occurrences.ensures)
    (fits_by_size _ (omega (
      arith,
      occurring_size _ _ _ _ laws c.requires.bits c.args.k c.loop-c.c c.requires.tuple
          (omega (arith, c.loop-c-test.true, c.width-c-end.ensures)),
    )))

pub plus-requires : goal.plus-requires
plus-requires g c =
    let codes = g.G.Group.codes c.args.part.now.group in
    let tuples = g.G.Group.dictionary c.args.part.now.group in
    let part = part_of g.G.Group.codes g.G.Group.dictionary c.args.part.now in
    let wide = same_width _ _ _ _ _ (g.met.G.Group.laws c.args.part.now.group) c.requires.part.group in
    let col : c.loop-c.c < length part.columns = omega (arith, c.loop-c-test.true, c.width-c-end.ensures, wide) in
    let column : c.index.result.now ≡ column_at part.columns c.loop-c.c =
    column_read part.columns c.loop-c.c c.index.result.now c.index.ensures col in
    let within : c.index.result.now < length c.loop-c.into =
    rw column (omega (arith, c.requires.within c.loop-c.c col, c.loop-c.auto.into)) in
    let f = λ (l : ℕ). occurring codes tuples l c.loop-c.c in
    let held : c.index-into-place.result ≡ sum_to f c.args.k =
    c.index-into-place.is ∙ get_or_default c.loop-c.into c.index.result.now c.index-into-place.result (pos 0) within
    ∙ ap (at c.loop-c.into) column ∙ c.loop-c.invariant.sums.left c.loop-c.c (omega arith) col in
    let count : c.count-count.result ≡ pos (occurrences_of codes c.args.k) = c.count-count.ensures
    ∙ ap (λ (n : ℕ). pos n) c.occurrences.ensures in
    let term : c.times.result ≡ f c.args.k =
    c.times.ensures.product ∙ ap (λ (z : ℤ). z *ℤ c.count-count.result) c.value.ensures
    ∙ ap (λ (z : ℤ). value_of tuples c.args.k c.loop-c.c *ℤ z) count in
    let sum : c.index-into-place.result +ℤ c.times.result ≡ sum_to f (suc c.args.k) =
    ap (λ (z : ℤ). z +ℤ c.times.result) held ∙ ap (λ (z : ℤ). sum_to f c.args.k +ℤ z) term in
    subst (FitsSigned w128) (sym sum)
    (fits_by_size _ (column_size _ _ _ _ c.requires.part.group c.requires.bits c.loop-c.c (suc c.args.k) col
    (omega (arith, c.requires.tuple))))

pub loop-c-preserved : goal.loop-c-preserved
loop-c-preserved g c =
    let codes = g.G.Group.codes c.args.part.now.group in
    let tuples = g.G.Group.dictionary c.args.part.now.group in
    let part = part_of g.G.Group.codes g.G.Group.dictionary c.args.part.now in
    let wide = same_width _ _ _ _ _ (g.met.G.Group.laws c.args.part.now.group) c.requires.part.group in
    let col : c.loop-c.c < length part.columns = omega (arith, c.loop-c-test.true, c.width-c-end.ensures, wide) in
    let column : c.index.result.now ≡ column_at part.columns c.loop-c.c =
    column_read part.columns c.loop-c.c c.index.result.now c.index.ensures col in
    let within : c.index.result.now < length c.loop-c.into =
    rw column (omega (arith, c.requires.within c.loop-c.c col, c.loop-c.auto.into)) in
    let place : IsPlaceOf part c.loop-c.into c.loop-c.c c.index.result.now =
    record { rising = c.requires.part.rising; there = col; is = column; within = within } in
    let f = λ (l : ℕ). occurring codes tuples l c.loop-c.c in
    let held : c.index-into-place.result ≡ sum_to f c.args.k =
    c.index-into-place.is ∙ get_or_default c.loop-c.into c.index.result.now c.index-into-place.result (pos 0) within
    ∙ ap (at c.loop-c.into) column ∙ c.loop-c.invariant.sums.left c.loop-c.c (omega arith) col in
    let count : c.count-count.result ≡ pos (occurrences_of codes c.args.k) = c.count-count.ensures
    ∙ ap (λ (n : ℕ). pos n) c.occurrences.ensures in
    let term : c.times.result ≡ f c.args.k =
    c.times.ensures.product ∙ ap (λ (z : ℤ). z *ℤ c.count-count.result) c.value.ensures
    ∙ ap (λ (z : ℤ). value_of tuples c.args.k c.loop-c.c *ℤ z) count in
    let sum : c.index-into-place.result +ℤ c.times.result ≡ sum_to f (suc c.args.k) =
    ap (λ (z : ℤ). z +ℤ c.times.result) held ∙ ap (λ (z : ℤ). sum_to f c.args.k +ℤ z) term in
    let next : suc c.args.k ≡ c.args.k + 1 = omega arith in
    record {
      sums = added_here c.args.k
          (c.args.k + 1) c.loop-c.c part c.args.into.now c.loop-c.into c.index.result.now c.plus.result place
          (c.plus.ensures ∙ sum ∙ ap (sum_to f) next) c.loop-c.invariant.sums;
      counts = search rules;
    }

pub returns-clause-sums : goal.returns-clause-sums
returns-clause-sums g c =
    let part = part_of g.G.Group.codes g.G.Group.dictionary c.args.part.now in
    let wide = same_width _ _ _ _ _ (g.met.G.Group.laws c.args.part.now.group) c.requires.part.group in
    let all : c.loop-c.c ≡ length part.columns =
    omega (arith, c.loop-c-test.false, c.width-c-end.ensures, c.loop-c.auto.c-end, wide) in
    record {
      added = λ d there. c.loop-c.invariant.sums.done d (omega (arith, there, all));
      kept = c.loop-c.invariant.sums.kept;
    }

pub returns-clause-counts : goal.returns-clause-counts
returns-clause-counts g c =
    let part = part_of g.G.Group.codes g.G.Group.dictionary c.args.part.now in
    let wide = same_width _ _ _ _ _ (g.met.G.Group.laws c.args.part.now.group) c.requires.part.group in
    let all : c.loop-c.c ≡ length part.columns =
    omega (arith, c.loop-c-test.false, c.width-c-end.ensures, c.loop-c.auto.c-end, wide) in
    rw (sym all) c.loop-c.invariant.counts
