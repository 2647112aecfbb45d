use Rattle.std.proofs.Common.{◌≡◌, ◌<◌, length, map, ap, subst, sym, ◌∙◌, refl, arith, rules}
use Rattle.std.proofs.lemmas.List.{map-set, length-map}
use Rattle.std.specs.Vec.{vec_len}
use Rattle.cla_layout.specs.Groups.{at}
use Rattle.cla_layout.specs.Layouts.{column_at}
use Rattle.cla_layout.proofs.Columns.{column_read}
use Rattle.cla_layout.proofs.Wholes.{same_width}
use Rattle.cla_coded.specs.Parts.{part_of}
use Rattle.cla_agg.specs.Lines.{IsChosen}
use Rattle.cla_agg.proofs.Placed.{IsPlaceOf, made_here}
use Rattle.cla_agg.proofs.Spread.{value_read}
use Rattle.cla_agg.proofs.columns.choose_in_tuples.Goals as goal

pub loop-c-init : goal.loop-c-init
loop-c-init g c = record {
  done = λ d lt. absurd (omega (arith, lt));
  left = λ d le there. c.requires.so_far d there;
  kept = λ j none. refl;
}

pub index-requires : goal.index-requires
index-requires g c =
    let part = part_of g.G.Group.codes g.G.Group.dictionary c.args.part.now in
    let wide = same_width _ _ _ _ _ (g.met.G.Group.laws c.args.part.now.group) c.requires.part.group in
    let col : c.loop-c.c < length part.columns = omega (arith, c.loop-c-test.true, c.width-c-end.ensures, wide) in
    let whole : vec_len c.args.part.now.columns ≡ length c.args.part.now.columns.items = search rules in
    omega (arith, whole, col)

pub offset_bounds-into-place : goal.offset_bounds-into-place
offset_bounds-into-place g c =
    let part = part_of g.G.Group.codes g.G.Group.dictionary c.args.part.now in
    let wide = same_width _ _ _ _ _ (g.met.G.Group.laws c.args.part.now.group) c.requires.part.group in
    let col : c.loop-c.c < length part.columns = omega (arith, c.loop-c-test.true, c.width-c-end.ensures, wide) in
    let column : c.index.result.now ≡ column_at part.columns c.loop-c.c =
    column_read part.columns c.loop-c.c c.index.result.now c.index.ensures col in
    let within : c.index.result.now < length c.loop-c.into =
    rw column (omega (arith, c.requires.within c.loop-c.c col, c.loop-c.auto.into)) in
    search rules

pub bounds-into-place : goal.bounds-into-place
bounds-into-place g c =
    let part = part_of g.G.Group.codes g.G.Group.dictionary c.args.part.now in
    let wide = same_width _ _ _ _ _ (g.met.G.Group.laws c.args.part.now.group) c.requires.part.group in
    let col : c.loop-c.c < length part.columns = omega (arith, c.loop-c-test.true, c.width-c-end.ensures, wide) in
    let column : c.index.result.now ≡ column_at part.columns c.loop-c.c =
    column_read part.columns c.loop-c.c c.index.result.now c.index.ensures col in
    let within : c.index.result.now < length c.loop-c.into =
    rw column (omega (arith, c.requires.within c.loop-c.c col, c.loop-c.auto.into)) in
    within

pub offset_bounds-into-place-in-loop-c : goal.offset_bounds-into-place-in-loop-c
offset_bounds-into-place-in-loop-c g c =
    let part = part_of g.G.Group.codes g.G.Group.dictionary c.args.part.now in
    let wide = same_width _ _ _ _ _ (g.met.G.Group.laws c.args.part.now.group) c.requires.part.group in
    let col : c.loop-c.c < length part.columns = omega (arith, c.loop-c-test.true, c.width-c-end.ensures, wide) in
    let column : c.index.result.now ≡ column_at part.columns c.loop-c.c =
    column_read part.columns c.loop-c.c c.index.result.now c.index.ensures col in
    let within : c.index.result.now < length c.loop-c.into =
    rw column (omega (arith, c.requires.within c.loop-c.c col, c.loop-c.auto.into)) in
    search rules

pub bounds-into-place-in-loop-c : goal.bounds-into-place-in-loop-c
bounds-into-place-in-loop-c g c =
    let part = part_of g.G.Group.codes g.G.Group.dictionary c.args.part.now in
    let wide = same_width _ _ _ _ _ (g.met.G.Group.laws c.args.part.now.group) c.requires.part.group in
    let col : c.loop-c.c < length part.columns = omega (arith, c.loop-c-test.true, c.width-c-end.ensures, wide) in
    let column : c.index.result.now ≡ column_at part.columns c.loop-c.c =
    column_read part.columns c.loop-c.c c.index.result.now c.index.ensures col in
    let within : c.index.result.now < length c.loop-c.into =
    rw column (omega (arith, c.requires.within c.loop-c.c col, c.loop-c.auto.into)) in
    within

pub chosen_in_column-requires-clause-so_far : goal.chosen_in_column-requires-clause-so_far
chosen_in_column-requires-clause-so_far g c =
    let part = part_of g.G.Group.codes g.G.Group.dictionary c.args.part.now in
    let wide = same_width _ _ _ _ _ (g.met.G.Group.laws c.args.part.now.group) c.requires.part.group in
    let col : c.loop-c.c < length part.columns = omega (arith, c.loop-c-test.true, c.width-c-end.ensures, wide) in
    let column : c.index.result.now ≡ column_at part.columns c.loop-c.c =
    column_read part.columns c.loop-c.c c.index.result.now c.index.ensures col in
    let value = g.N.Number.value in
    let there : c.index.result.now < length c.loop-c.into =
    rw column (omega (arith, c.requires.within c.loop-c.c col, c.loop-c.auto.into)) in
    let held : value c.index-into-place.result ≡ at (map value c.loop-c.into) (column_at part.columns c.loop-c.c) =
    value_read value c.loop-c.into c.index.result.now c.index-into-place.result there c.index-into-place.is
    ∙ ap (at (map value c.loop-c.into)) column in
    subst (IsChosen g.O.Order.before part c.args.from c.loop-c.c) (sym held)
    (c.loop-c.invariant.left c.loop-c.c (omega arith) col)

pub loop-c-preserved : goal.loop-c-preserved
loop-c-preserved g c =
    let part = part_of g.G.Group.codes g.G.Group.dictionary c.args.part.now in
    let wide = same_width _ _ _ _ _ (g.met.G.Group.laws c.args.part.now.group) c.requires.part.group in
    let col : c.loop-c.c < length part.columns = omega (arith, c.loop-c-test.true, c.width-c-end.ensures, wide) in
    let column : c.index.result.now ≡ column_at part.columns c.loop-c.c =
    column_read part.columns c.loop-c.c c.index.result.now c.index.ensures col in
    let value = g.N.Number.value in
    let now = map value c.loop-c.into in
    let within : c.index.result.now < length now =
    rw column (omega (arith, c.requires.within c.loop-c.c col, c.loop-c.auto.into, length-map c.loop-c.into value)) in
    let place : IsPlaceOf part now c.loop-c.c c.index.result.now =
    record { rising = c.requires.part.rising; there = col; is = column; within = within } in
    rw (map-set value c.loop-c.into c.index.result.now c.chosen_in_column.result)
    (made_here (IsChosen g.O.Order.before part c.args.end) (IsChosen g.O.Order.before part c.args.from)
    c.loop-c.c part (map value c.args.into.now) now c.index.result.now (value c.chosen_in_column.result) place
    c.chosen_in_column.ensures c.loop-c.invariant)

pub returns : goal.returns
returns g c =
    let part = part_of g.G.Group.codes g.G.Group.dictionary c.args.part.now in
    let wide = same_width _ _ _ _ _ (g.met.G.Group.laws c.args.part.now.group) c.requires.part.group in
    let all : c.loop-c.c ≡ length part.columns =
    omega (arith, c.loop-c-test.false, c.width-c-end.ensures, c.loop-c.auto.c-end, wide) in
    record { made = λ d there. c.loop-c.invariant.done d (omega (arith, there, all)); kept = c.loop-c.invariant.kept }
