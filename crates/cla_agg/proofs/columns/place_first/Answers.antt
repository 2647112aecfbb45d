use Rattle.std.proofs.Common.{◌≡◌, ◌<◌, ℕ, ℤ, length, map, arith}
use Rattle.std.proofs.lemmas.List.{map-set, length-map}
use Rattle.cla_layout.specs.Groups.{at}
use Rattle.cla_layout.specs.Layouts.{column_at}
use Rattle.cla_layout.proofs.Columns.{column_read}
use Rattle.cla_layout.proofs.Wholes.{same_width}
use Rattle.cla_coded.specs.Parts.{part_of}
use Rattle.cla_agg.specs.Lines.{IsFirstValue}
use Rattle.cla_agg.proofs.Placed.{IsPlaceOf, made_here}
use Rattle.cla_agg.proofs.columns.place_first.Goals as goal

pub loop-c-preserved : goal.loop-c-preserved
loop-c-preserved g c =
    let part = part_of g.G.Group.codes g.G.Group.dictionary c.args.part.now in
    let wide = same_width _ _ _ _ _ (g.met.G.Group.laws c.args.part.now.group) c.requires.part.group in
    let col : c.loop-c.c < length part.columns = omega (arith, c.loop-c-test.true, c.width-c-end.ensures, wide) in
    let column : c.index.result.now ≡ column_at part.columns c.loop-c.c =
    column_read part.columns c.loop-c.c c.index.result.now c.index.ensures col in
    let value = g.N.Number.value in
    let now = map value c.loop-c.into in
    let within : c.index.result.now < length now =
    rw column (omega (arith, c.requires.within c.loop-c.c col, c.loop-c.auto.into, length-map c.loop-c.into value)) in
    let place : IsPlaceOf part now c.loop-c.c c.index.result.now =
    record { rising = c.requires.part.rising; there = col; is = column; within = within } in
    rw (map-set value c.loop-c.into c.index.result.now c.value.result)
    (made_here (IsFirstValue part)
    (λ (d : ℕ) (v : ℤ). v ≡ at (map value c.args.into.now) (column_at part.columns d))
    c.loop-c.c part (map value c.args.into.now) now c.index.result.now (value c.value.result) place
    c.value.ensures c.loop-c.invariant)

pub returns : goal.returns
returns g c =
    let part = part_of g.G.Group.codes g.G.Group.dictionary c.args.part.now in
    let wide = same_width _ _ _ _ _ (g.met.G.Group.laws c.args.part.now.group) c.requires.part.group in
    let all : c.loop-c.c ≡ length part.columns =
    omega (arith, c.loop-c-test.false, c.width-c-end.ensures, c.loop-c.auto.c-end, wide) in
    record { made = λ d there. c.loop-c.invariant.done d (omega (arith, there, all)); kept = c.loop-c.invariant.kept }
