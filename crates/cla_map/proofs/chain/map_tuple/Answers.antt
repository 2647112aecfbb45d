use Rattle.std.proofs.Common.{◌≡◌, ◌<◌, ◌+◌, ◌*◌, ℕ, length, ap, subst, ◌∙◌, arith}
use Rattle.cla_spec.specs.Matrix.{most_cells}
use Rattle.cla_layout.specs.Groups.{value_of, first_row_of}
use Rattle.cla_layout.proofs.Regroup.{first_row_there}
use Rattle.cla_layout.proofs.Wholes.{same_width}
use Rattle.std.proofs.lemmas.List.{get_or_default}
use Rattle.cla_layout.specs.Layouts.{column_at}
use Rattle.cla_coded.specs.Parts.{part_of}
use Rattle.cla_map.specs.Stops.{place_in, misfit_of}
use Rattle.cla_map.specs.FirstStops.{Tells, StopsInTuple, part_values}
use Rattle.cla_map.proofs.Steps.{tells_value, raised_more, raised_placed, raised_as, value_more, up_to}
use Rattle.cla_map.proofs.Shapes.{place_few}
use Rattle.cla_map.proofs.chain.map_tuple.Goals as goal

pub place-requires-clause-row : goal.place-requires-clause-row
place-requires-clause-row g c =
    let laws = g.met.G.Group.laws c.args.part.now.group in
    rw c.first_row-row.ensures (omega (
      arith,
      first_row_there (g.G.Group.codes c.args.part.now.group) c.args.t (laws.used c.args.t c.requires.tuple),
      c.requires.shape.is.a_code_each,
    ))

pub place-requires-clause-col : goal.place-requires-clause-col
place-requires-clause-col g c =
    let laws = g.met.G.Group.laws c.args.part.now.group in
    let wide = same_width _ _ _ _ _ laws c.requires.shape.is.group in
    let col : c.loop-c.c < length c.args.part.now.columns.items =
    omega (arith, c.loop-c-test.true, c.width-c-end.ensures, wide) in
    let is : c.index-column.result.now ≡ column_at c.args.part.now.columns.items c.loop-c.c =
    c.index-column.ensures ∙ get_or_default c.args.part.now.columns.items c.loop-c.c c.index-column.result.now 0 col
    in
    rw is (c.requires.shape.columns c.loop-c.c col)

pub place-requires-clause-few : goal.place-requires-clause-few
place-requires-clause-few g c =
    omega (
      arith,
      place_few c.args.shape c.first_row-row.result c.index-column.result.now
          (place-requires-clause-row g c) (place-requires-clause-col g c),
      c.requires.shape.few,
    )

pub loop-c-preserved : goal.loop-c-preserved
loop-c-preserved g c =
    let laws = g.met.G.Group.laws c.args.part.now.group in
    let wide = same_width _ _ _ _ _ laws c.requires.shape.is.group in
    let col : c.loop-c.c < length c.args.part.now.columns.items =
    omega (arith, c.loop-c-test.true, c.width-c-end.ensures, wide) in
    let is : c.index-column.result.now ≡ column_at c.args.part.now.columns.items c.loop-c.c =
    c.index-column.ensures ∙ get_or_default c.args.part.now.columns.items c.loop-c.c c.index-column.result.now 0 col
    in
    let tuples = g.G.Group.dictionary c.args.part.now.group in
    let codes = g.G.Group.codes c.args.part.now.group in
    let stop = g.M.Mapping.stop c.args.mapping.now in
    let last = g.M.Mapping.last c.args.mapping.now in
    let place = λ (k : ℕ). place_in c.args.shape (first_row_of codes c.args.t)
    (column_at c.args.part.now.columns.items k) in
    let here : c.place.result ≡ place c.loop-c.c =
    c.place.ensures ∙ ap (λ (r : ℕ). place_in c.args.shape r c.index-column.result.now) c.first_row-row.ensures
    ∙ ap (place_in c.args.shape (first_row_of codes c.args.t)) is in
    let row_is : first_row_of codes c.args.t < c.args.shape.rows =
    omega (
      arith,
      first_row_there codes c.args.t (laws.used c.args.t c.requires.tuple),
      c.requires.shape.is.a_code_each,
    ) in
    let few = place_few c.args.shape (first_row_of codes c.args.t) (column_at c.args.part.now.columns.items c.loop-c.c)
    row_is (c.requires.shape.columns c.loop-c.c col) in
    let small : place c.loop-c.c < most_cells = omega (arith, few, c.requires.shape.few) in
    let next : c.loop-c.c * g.M.Mapping.steps c.args.mapping.now + g.M.Mapping.steps c.args.mapping.now
    ≡ (c.loop-c.c + 1) * g.M.Mapping.steps c.args.mapping.now = omega arith in
    let columns = c.args.part.now.columns.items in
    let value = value_of tuples c.args.t c.loop-c.c in
    let stops : c.run-ran.result.stop ≡ stop (column_at columns c.loop-c.c) value =
    c.run-ran.ensures.stop ∙ ap (stop c.index-column.result.now) c.value.ensures ∙ ap (λ (d : ℕ). stop d value) is in
    let found = c.placed.ensures ∙ ap (λ (p : ℕ). misfit_of c.run-ran.result.stop p) here in
    let told = tells_value (λ (k : ℕ). stop (column_at columns k)) place (value_of tuples c.args.t) c.loop-c.c
    c.loop-c.first small c.loop-c.invariant.placed c.loop-c.invariant.tells in
    rw (c.lesser-first.ensures, c.placed.ensures, here, stops)
    (record {
      values = rw c.in_ok-push.ensures.items
          (value_more g.N.Number.value (λ (k : ℕ). last (column_at columns k)) (length columns) tuples c.args.t
          c.loop-c.c c.loop-c.values.items c.run-ran.result.value col
          (c.run-ran.ensures.value ∙ ap (last c.index-column.result.now) c.value.ensures
          ∙ ap (λ (d : ℕ). last d value) is) c.loop-c.invariant.values);
      tells = told.0;
      placed = told.1;
      counts = raised_as _ _ _ _ _ next
          (raised_more _ _ _ _ _ _ _ c.loop-c.invariant.counts
          (raised_placed _ _ (place c.loop-c.c) _ _ (rw stops at c.run-ran.ensures.counts)));
    })

pub returns-clause-done : goal.returns-clause-done
returns-clause-done g c =
    let laws = g.met.G.Group.laws c.args.part.now.group in
    let wide = same_width _ _ _ _ _ laws c.requires.shape.is.group in
    let part = part_of g.G.Group.codes g.G.Group.dictionary c.args.part.now in
    let columns = c.args.part.now.columns.items in
    let stop = g.M.Mapping.stop c.args.mapping.now in
    let last = g.M.Mapping.last c.args.mapping.now in
    let all : c.loop-c.c ≡ length columns =
    omega (arith, c.loop-c-test.false, c.width-c-end.ensures, c.loop-c.auto.c-end, wide) in
    record {
      values = c.loop-c.invariant.values ∙ ap (λ (m : ℕ). part_values last part (c.args.t * length columns + m)) all;
      tells = subst (λ (m : ℕ). Tells (StopsInTuple stop (place_in c.args.shape) part c.args.t m) c.loop-c.first) all
          c.loop-c.invariant.tells;
      placed = c.loop-c.invariant.placed;
      counts = raised_as _ _ _ _ _ (ap (λ (m : ℕ). m * g.M.Mapping.steps c.args.mapping.now) all)
          c.loop-c.invariant.counts;
    }

pub returns-clause-counts : goal.returns-clause-counts
returns-clause-counts g c =
    let wide = same_width _ _ _ _ _ (g.met.G.Group.laws c.args.part.now.group) c.requires.shape.is.group in
    let all : c.loop-c.c ≡ length c.args.part.now.columns.items =
    omega (arith, c.loop-c-test.false, c.width-c-end.ensures, c.loop-c.auto.c-end, wide) in
    let same : c.loop-c.c * g.M.Mapping.steps c.args.mapping.now
    ≡ length c.args.part.now.columns.items * g.M.Mapping.steps c.args.mapping.now =
    ap (λ (n : ℕ). n * g.M.Mapping.steps c.args.mapping.now) all in
    up_to _ _ _ _ _ (omega (arith, same)) c.loop-c.invariant.counts

pub run-ran-requires-clause-column : goal.run-ran-requires-clause-column
run-ran-requires-clause-column g c =
    let wide = same_width _ _ _ _ _ (g.met.G.Group.laws c.args.part.now.group) c.requires.shape.is.group in
    let columns = c.args.part.now.columns.items in
    let col : c.loop-c.c < length columns = omega (arith, c.loop-c-test.true, c.width-c-end.ensures, wide) in
    let is : c.index-column.result.now ≡ column_at columns c.loop-c.c =
    c.index-column.ensures ∙ get_or_default columns c.loop-c.c c.index-column.result.now 0 col in
    c.requires.covers c.index-column.result.now (rw is (c.requires.shape.columns c.loop-c.c col))
