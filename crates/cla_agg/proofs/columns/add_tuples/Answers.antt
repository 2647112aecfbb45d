use Rattle.std.proofs.Common.{◌≡◌, ◌<◌, ◌≤◌, ◌+◌, ◌*◌, ◌+ℤ◌, ℕ, ℤ, pos, length, ap, subst, sym, ◌∙◌, arith, rules}
use Rattle.std.proofs.Math.Nat.{mul-le-mul_right}
use Rattle.std.proofs.lemmas.List.{get_or_default}
use Rattle.std.specs.Vec.{vec_len}
use Rattle.std.specs.Int.{w128}
use Rattle.std.specs.Int.RustNames.{FitsSigned}
use Rattle.cla_spec.specs.Numbers.{sum_to}
use Rattle.cla_spec.specs.Matrix.{most_cells}
use Rattle.cla_spec.proofs.Sums.{sum_to-split}
use Rattle.cla_num.proofs.Sizes.{fits_by_size}
use Rattle.cla_layout.specs.Groups.{at}
use Rattle.cla_layout.specs.Layouts.{column_at}
use Rattle.cla_layout.proofs.Cells.{occurring, values_few}
use Rattle.cla_layout.proofs.Columns.{column_read}
use Rattle.cla_layout.proofs.Wholes.{same_width}
use Rattle.cla_coded.specs.Parts.{part_of}
use Rattle.cla_agg.proofs.Placed.{IsPlaceOf, added_here, column_size}
use Rattle.cla_agg.proofs.columns.add_tuples.Goals as goal

pub sum_in_column-sum-requires-clause-room : goal.sum_in_column-sum-requires-clause-room
sum_in_column-sum-requires-clause-room g c =
    let part = part_of g.G.Group.codes g.G.Group.dictionary c.args.part.now in
    let wide = same_width _ _ _ _ _ (g.met.G.Group.laws c.args.part.now.group) c.requires.part.group in
    let col : c.loop-c.c < length part.columns = omega (arith, c.loop-c-test.true, c.width-c-end.ensures, wide) in
    let rows : c.args.count ≤ length part.tuples = omega (arith, c.requires.tuples) in
    let before : c.loop-c.c ≤ length part.columns = omega (arith, col) in
    let few : c.loop-c.c * c.args.count ≤ most_cells =
    omega (
      arith,
      values_few _ _ _ _ c.requires.part.group,
      mul-le-mul_right (length part.columns) rows,
      mul-le-mul_right c.args.count before,
    ) in
    rw c.loop-c.invariant.counts
    (record {
      mults = omega (arith, c.requires.room.mults, few);
      maps = omega (arith, c.requires.room.maps);
    })

pub index-requires : goal.index-requires
index-requires g c =
    let part = part_of g.G.Group.codes g.G.Group.dictionary c.args.part.now in
    let wide = same_width _ _ _ _ _ (g.met.G.Group.laws c.args.part.now.group) c.requires.part.group in
    let col : c.loop-c.c < length part.columns = omega (arith, c.loop-c-test.true, c.width-c-end.ensures, wide) in
    let whole : vec_len c.args.part.now.columns ≡ length c.args.part.now.columns.items = search rules in
    omega (arith, whole, col)

pub bounds-into-place : goal.bounds-into-place
bounds-into-place g c =
    let part = part_of g.G.Group.codes g.G.Group.dictionary c.args.part.now in
    let wide = same_width _ _ _ _ _ (g.met.G.Group.laws c.args.part.now.group) c.requires.part.group in
    let col : c.loop-c.c < length part.columns = omega (arith, c.loop-c-test.true, c.width-c-end.ensures, wide) in
    let column : c.index.result.now ≡ column_at part.columns c.loop-c.c =
    column_read part.columns c.loop-c.c c.index.result.now c.index.ensures col in
    let within : c.index.result.now < length c.loop-c.into =
    rw column (omega (arith, c.requires.within c.loop-c.c col, c.loop-c.auto.into)) in
    within

pub bounds-into-place-in-loop-c : goal.bounds-into-place-in-loop-c
bounds-into-place-in-loop-c g c =
    let part = part_of g.G.Group.codes g.G.Group.dictionary c.args.part.now in
    let wide = same_width _ _ _ _ _ (g.met.G.Group.laws c.args.part.now.group) c.requires.part.group in
    let col : c.loop-c.c < length part.columns = omega (arith, c.loop-c-test.true, c.width-c-end.ensures, wide) in
    let column : c.index.result.now ≡ column_at part.columns c.loop-c.c =
    column_read part.columns c.loop-c.c c.index.result.now c.index.ensures col in
    let within : c.index.result.now < length c.loop-c.into =
    rw column (omega (arith, c.requires.within c.loop-c.c col, c.loop-c.auto.into)) in
    within

pub plus-requires : goal.plus-requires
plus-requires g c =
    let part = part_of g.G.Group.codes g.G.Group.dictionary c.args.part.now in
    let wide = same_width _ _ _ _ _ (g.met.G.Group.laws c.args.part.now.group) c.requires.part.group in
    let col : c.loop-c.c < length part.columns = omega (arith, c.loop-c-test.true, c.width-c-end.ensures, wide) in
    let column : c.index.result.now ≡ column_at part.columns c.loop-c.c =
    column_read part.columns c.loop-c.c c.index.result.now c.index.ensures col in
    let within : c.index.result.now < length c.loop-c.into =
    rw column (omega (arith, c.requires.within c.loop-c.c col, c.loop-c.auto.into)) in
    let f = λ (l : ℕ). occurring part.codes part.tuples l c.loop-c.c in
    let held : c.index-into-place.result ≡ sum_to f c.args.from =
    c.index-into-place.is ∙ get_or_default c.loop-c.into c.index.result.now c.index-into-place.result (pos 0) within
    ∙ ap (at c.loop-c.into) column ∙ c.loop-c.invariant.sums.left c.loop-c.c (omega arith) col in
    let sum : c.index-into-place.result +ℤ c.sum_in_column-sum.result ≡ sum_to f (c.args.from + c.args.count) =
    ap (λ (z : ℤ). z +ℤ c.sum_in_column-sum.result) held
    ∙ ap (λ (z : ℤ). sum_to f c.args.from +ℤ z) c.sum_in_column-sum.ensures.sum
    ∙ sym (sum_to-split f c.args.from c.args.count) in
    subst (FitsSigned w128) (sym sum)
    (fits_by_size _
    (column_size _ _ _ _ c.requires.part.group c.requires.bits c.loop-c.c (c.args.from + c.args.count) col
    c.requires.tuples))

pub loop-c-preserved : goal.loop-c-preserved
loop-c-preserved g c =
    let part = part_of g.G.Group.codes g.G.Group.dictionary c.args.part.now in
    let wide = same_width _ _ _ _ _ (g.met.G.Group.laws c.args.part.now.group) c.requires.part.group in
    let col : c.loop-c.c < length part.columns = omega (arith, c.loop-c-test.true, c.width-c-end.ensures, wide) in
    let column : c.index.result.now ≡ column_at part.columns c.loop-c.c =
    column_read part.columns c.loop-c.c c.index.result.now c.index.ensures col in
    let within : c.index.result.now < length c.loop-c.into =
    rw column (omega (arith, c.requires.within c.loop-c.c col, c.loop-c.auto.into)) in
    let place : IsPlaceOf part c.loop-c.into c.loop-c.c c.index.result.now =
    record { rising = c.requires.part.rising; there = col; is = column; within = within } in
    let f = λ (l : ℕ). occurring part.codes part.tuples l c.loop-c.c in
    let held : c.index-into-place.result ≡ sum_to f c.args.from =
    c.index-into-place.is ∙ get_or_default c.loop-c.into c.index.result.now c.index-into-place.result (pos 0) within
    ∙ ap (at c.loop-c.into) column ∙ c.loop-c.invariant.sums.left c.loop-c.c (omega arith) col in
    let sum : c.index-into-place.result +ℤ c.sum_in_column-sum.result ≡ sum_to f (c.args.from + c.args.count) =
    ap (λ (z : ℤ). z +ℤ c.sum_in_column-sum.result) held
    ∙ ap (λ (z : ℤ). sum_to f c.args.from +ℤ z) c.sum_in_column-sum.ensures.sum
    ∙ sym (sum_to-split f c.args.from c.args.count) in
    record {
      sums = added_here c.args.from (c.args.from + c.args.count) c.loop-c.c part c.args.into.now c.loop-c.into
          c.index.result.now c.plus.result place (c.plus.ensures ∙ sum) c.loop-c.invariant.sums;
      counts = search rules;
    }

pub returns-clause-sums : goal.returns-clause-sums
returns-clause-sums g c =
    let part = part_of g.G.Group.codes g.G.Group.dictionary c.args.part.now in
    let wide = same_width _ _ _ _ _ (g.met.G.Group.laws c.args.part.now.group) c.requires.part.group in
    let all : c.loop-c.c ≡ length part.columns =
    omega (arith, c.loop-c-test.false, c.width-c-end.ensures, c.loop-c.auto.c-end, wide) in
    record {
      added = λ d there. c.loop-c.invariant.sums.done d (omega (arith, there, all));
      kept = c.loop-c.invariant.sums.kept;
    }

pub returns-clause-counts : goal.returns-clause-counts
returns-clause-counts g c =
    let part = part_of g.G.Group.codes g.G.Group.dictionary c.args.part.now in
    let wide = same_width _ _ _ _ _ (g.met.G.Group.laws c.args.part.now.group) c.requires.part.group in
    let all : c.loop-c.c ≡ length part.columns =
    omega (arith, c.loop-c-test.false, c.width-c-end.ensures, c.loop-c.auto.c-end, wide) in
    rw (sym all) c.loop-c.invariant.counts
