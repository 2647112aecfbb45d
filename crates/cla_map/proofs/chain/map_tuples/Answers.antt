use Rattle.std.proofs.Common.{◌≡◌, ◌≤◌, ◌+◌, ◌*◌, ℕ, length, map, ap, subst, ◌∙◌, arith}
use Rattle.std.proofs.Math.Nat.{mul-le-mul_right}
use Rattle.cla_layout.specs.Groups.{value_of, first_row_of}
use Rattle.cla_layout.proofs.Cells.{values_few}
use Rattle.cla_coded.specs.Parts.{part_of}
use Rattle.cla_layout.specs.Layouts.{column_at}
use Rattle.cla_map.specs.Stops.{place_in}
use Rattle.cla_map.specs.FirstStops.{Tells, StopsIn, part_values}
use Rattle.cla_map.specs.Answers.{MapsTuple}
use Rattle.cla_map.proofs.Steps.{tells_tuple, raised_more, raised_as}
use Rattle.cla_map.proofs.Results.{few_runs}
use Rattle.cla_map.proofs.chain.map_tuples.Goals as goal

pub map_tuple-requires-clause-room : goal.map_tuple-requires-clause-room
map_tuple-requires-clause-room g c =
    let laws = g.met.G.Group.laws c.args.part.now.group in
    let few = values_few _ _ _ _ c.requires.shape.is.group in
    let w = length c.args.part.now.columns.items in
    let before : c.loop-t.t ≤ length (g.G.Group.dictionary c.args.part.now.group) =
    omega (arith, c.loop-t-test.true, c.tuples-t-end.ensures) in
    let small = few_runs (c.loop-t.t * w) (g.M.Mapping.steps c.args.mapping.now)
    (omega (arith, few, mul-le-mul_right w before)) c.requires.few in
    record {
      mults = omega (arith, c.requires.room.mults, c.loop-t.invariant.counts.mults);
      maps =
          omega (arith, c.requires.room.maps, c.loop-t.invariant.counts.most, small);
    }

pub loop-t-preserved : goal.loop-t-preserved
loop-t-preserved g c =
    let codes = g.G.Group.codes c.args.part.now.group in
    let tuples = g.G.Group.dictionary c.args.part.now.group in
    let columns = c.args.part.now.columns.items in
    let part = part_of g.G.Group.codes g.G.Group.dictionary c.args.part.now in
    let stop = g.M.Mapping.stop c.args.mapping.now in
    let last = g.M.Mapping.last c.args.mapping.now in
    let done : MapsTuple stop last c.args.shape (part_of g.G.Group.codes g.G.Group.dictionary c.args.part.now)
    c.loop-t.t (map g.N.Number.value c.map_tuple.new.values.items) c.in_ok-found.found
    (g.M.Mapping.steps c.args.mapping.now) c.loop-t.meter c.map_tuple.new.meter = c.in_ok-found.ensures.done in
    let t = c.loop-t.t in
    let w = length columns in
    let next : t * w + w ≡ (t + 1) * w = omega arith in
    let runs : t * w * g.M.Mapping.steps c.args.mapping.now + w * g.M.Mapping.steps c.args.mapping.now
    ≡ (t + 1) * w * g.M.Mapping.steps c.args.mapping.now = omega arith in
    let told = tells_tuple (λ (k : ℕ). stop (column_at columns k)) w
    (λ k c'. place_in c.args.shape (first_row_of codes k) (column_at columns c')) (value_of tuples) t c.loop-t.first
    c.in_ok-found.found c.loop-t.invariant.placed done.placed c.loop-t.invariant.tells done.tells in
    rw c.lesser-first.ensures
    (record {
      values = done.values ∙ ap (part_values last part) next;
      tells = told.0;
      placed = told.1;
      counts = raised_as _ _ _ _ _ runs (raised_more _ _ _ _ _ _ _ c.loop-t.invariant.counts done.counts);
    })

pub returns-clause-done : goal.returns-clause-done
returns-clause-done g c =
    let codes = g.G.Group.codes c.args.part.now.group in
    let tuples = g.G.Group.dictionary c.args.part.now.group in
    let columns = c.args.part.now.columns.items in
    let part = part_of g.G.Group.codes g.G.Group.dictionary c.args.part.now in
    let stop = g.M.Mapping.stop c.args.mapping.now in
    let last = g.M.Mapping.last c.args.mapping.now in
    let all : c.loop-t.t ≡ length tuples =
    omega (arith, c.loop-t-test.false, c.tuples-t-end.ensures, c.loop-t.auto.t-end) in
    record {
      values = c.loop-t.invariant.values ∙ ap (λ (t : ℕ). part_values last part (t * length columns)) all;
      tells = subst (λ (t : ℕ). Tells
          (StopsIn (λ (k : ℕ). stop (column_at columns k)) t (length columns)
          (λ k c'. place_in c.args.shape (first_row_of codes k) (column_at columns c')) (value_of tuples))
          c.loop-t.first) all c.loop-t.invariant.tells;
      placed = c.loop-t.invariant.placed;
      counts = raised_as _ _ _ _ _ (ap (λ (t : ℕ). t * length columns * g.M.Mapping.steps c.args.mapping.now) all)
          c.loop-t.invariant.counts;
    }
