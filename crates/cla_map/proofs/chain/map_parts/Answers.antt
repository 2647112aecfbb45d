use Rattle.std.proofs.Common.{◌≡◌, ◌<◌, ◌≤◌, ◌+◌, ◌*◌, ℕ, List, length, map, take, ap, subst, sym, ◌∙◌, arith}
use Rattle.std.proofs.lemmas.List.{take_all, length-map, length_push}
use Rattle.cla_layout.specs.Layouts.{LayoutPart, layout_with}
use Rattle.cla_coded.specs.Parts.{part_of, parts_of}
use Rattle.cla_coded.proofs.Outlines.{part_of_item, parts_count}
use Rattle.cla_layout.proofs.Wholes.{own_column, own_column_within}
use Rattle.cla_map.specs.Stops.{place_in}
use Rattle.cla_map.specs.FirstStops.{Tells, StopsInPart, StopsInParts, mapped_part}
use Rattle.cla_layout.specs.Values.{values_of}
use Rattle.cla_map.specs.Answers.{MapsPart}
use Rattle.std.proofs.Math.Nat.{mul-le-mul_right}
use Rattle.cla_map.proofs.Steps.{tells_part, raised_more, raised_as, up_to_more, values_within}
use Rattle.cla_map.proofs.Results.{few_runs, parts_more}
use Rattle.cla_map.proofs.Rooms.{room_turn, room_end}
use Rattle.cla_layout.proofs.PartValues.{values_more, values_few}
use Rattle.cla_map.proofs.chain.map_parts.Goals as goal

pub map_part-requires-clause-shape : goal.map_part-requires-clause-shape
map_part-requires-clause-shape g c =
    let items = c.args.parts.now in
    let parts = parts_of g.G.Group.codes g.G.Group.dictionary items in
    let part = part_of g.G.Group.codes g.G.Group.dictionary c.in-Some.room.part.now in
    let q = length c.loop-room.yielded in
    let taken = room_turn _ c.into_iter-room-iterator.result c.in_ok-rooms.rooms.items items c.in_ok-rooms.ensures
    c.into_iter-room-iterator.ensures.into_iter_gives.0
    (c.into_iter-room-iterator.ensures.into_iter_gives.1 ∙ c.in_ok-rooms.rooms.ok.0)
    c.loop-room.yielded c.loop-room.room-iterator c.loop-room.yielded_by c.next.result c.next.new.self
    c.next.ensures.steps
    c.in-Some.room c.in-Some.is in
    let within : q < length parts = rw (parts_count g.G.Group.codes g.G.Group.dictionary items) taken.0 in
    let is = part_of_item g.G.Group.codes g.G.Group.dictionary items q c.in-Some.room.part.now taken.0 taken.1 in
    let are = rw is at (c.requires.whole.each q within) in
    record {
      is = are;
      columns = λ place there. (let own = own_column part place are.rising there in
          own_column_within c.args.shape.cols parts q _ c.requires.whole.partition within (rw is own.1));
      few = c.requires.whole.few;
    }

pub map_part-requires-clause-room : goal.map_part-requires-clause-room
map_part-requires-clause-room g c =
    let parts = parts_of g.G.Group.codes g.G.Group.dictionary c.args.parts.now in
    let few = values_few g.N.Number.BITS (layout_with c.args.shape.rows c.args.shape.cols parts)
    (length c.loop-room.yielded) c.requires.whole in
    let small = few_runs (values_of (take (length c.loop-room.yielded) parts)) (g.M.Mapping.steps c.args.mapping.now)
    (omega (arith, few, c.requires.whole.few)) c.requires.few in
    record {
      mults = omega (arith, c.requires.room.mults, c.loop-room.invariant.counts.mults);
      maps =
          omega (arith, c.requires.room.maps, c.loop-room.invariant.counts.most, small);
    }

pub loop-room-preserved : goal.loop-room-preserved
loop-room-preserved g c =
    let items = c.args.parts.now in
    let parts = parts_of g.G.Group.codes g.G.Group.dictionary items in
    let part = part_of g.G.Group.codes g.G.Group.dictionary c.in-Some.room.part.now in
    let q = length c.loop-room.yielded in
    let taken = room_turn _ c.into_iter-room-iterator.result c.in_ok-rooms.rooms.items items c.in_ok-rooms.ensures
    c.into_iter-room-iterator.ensures.into_iter_gives.0
    (c.into_iter-room-iterator.ensures.into_iter_gives.1 ∙ c.in_ok-rooms.rooms.ok.0)
    c.loop-room.yielded c.loop-room.room-iterator c.loop-room.yielded_by c.next.result c.next.new.self
    c.next.ensures.steps
    c.in-Some.room c.in-Some.is in
    let within : q < length parts = rw (parts_count g.G.Group.codes g.G.Group.dictionary items) taken.0 in
    let is = part_of_item g.G.Group.codes g.G.Group.dictionary items q c.in-Some.room.part.now taken.0 taken.1 in
    let stop = g.M.Mapping.stop c.args.mapping.now in
    let last = g.M.Mapping.last c.args.mapping.now in
    let done : MapsPart stop last c.args.shape part (part_of g.G.Group.codes g.G.Group.dictionary c.in_ok-next.next)
    c.in_ok-next.found (g.M.Mapping.steps c.args.mapping.now) c.loop-room.meter c.map_part.new.meter =
    c.in_ok-next.ensures.done in
    let runs : values_of (take q parts) * g.M.Mapping.steps c.args.mapping.now + length part.tuples * length
    part.columns * g.M.Mapping.steps c.args.mapping.now ≡ values_of (take (q + 1) parts) * g.M.Mapping.steps
    c.args.mapping.now =
    omega (
      arith,
      ap (λ (n : ℕ). n * g.M.Mapping.steps c.args.mapping.now) (values_more parts q within),
      ap (λ (p : LayoutPart). length p.tuples * length p.columns * g.M.Mapping.steps c.args.mapping.now) is,
    ) in
    let told = tells_part stop (place_in c.args.shape) parts q c.loop-room.first c.in_ok-next.found
    c.loop-room.invariant.placed done.placed c.loop-room.invariant.tells
    (subst (λ (p : LayoutPart). Tells (StopsInPart stop (place_in c.args.shape) p) c.in_ok-next.found) (sym is)
    done.tells) in
    rw (c.lesser-first.ensures, length_push c.loop-room.yielded c.in-Some.room)
    (record {
      values = rw c.in_ok-push.ensures.items
          (parts_more g.G.Group.codes g.G.Group.dictionary last parts q c.loop-room.mapped.items c.in_ok-next.next
          within c.loop-room.invariant.values (done.values ∙ ap (mapped_part last) (sym is)));
      tells = told.0;
      placed = told.1;
      counts = raised_as _ _ _ _ _ runs (raised_more _ _ _ _ _ _ _ c.loop-room.invariant.counts done.counts);
    })

pub returns-clause-done : goal.returns-clause-done
returns-clause-done g c =
    let items = c.args.parts.now in
    let parts = parts_of g.G.Group.codes g.G.Group.dictionary items in
    let q = length c.loop-room.yielded in
    let stop = g.M.Mapping.stop c.args.mapping.now in
    let last = g.M.Mapping.last c.args.mapping.now in
    let count = parts_count g.G.Group.codes g.G.Group.dictionary items in
    let taken = room_end _ c.into_iter-room-iterator.result c.in_ok-rooms.rooms.items items c.in_ok-rooms.ensures
    c.into_iter-room-iterator.ensures.into_iter_gives.0
    (c.into_iter-room-iterator.ensures.into_iter_gives.1 ∙ c.in_ok-rooms.rooms.ok.0)
    c.loop-room.yielded c.loop-room.room-iterator c.loop-room.yielded_by c.next.result c.next.new.self
    c.next.ensures.steps
    c.in-None.is in
    let all : q ≡ length parts = omega (arith, taken, count) in
    let past : length parts ≤ q = omega (arith, all) in
    let done : length (map (mapped_part last) parts) ≤ q = rw (length-map parts (mapped_part last)) past in
    record {
      values = c.loop-room.invariant.values ∙ take_all q (map (mapped_part last) parts) done;
      tells = subst (λ (n : ℕ). Tells (StopsInParts stop (place_in c.args.shape) parts n) c.loop-room.first) all
          c.loop-room.invariant.tells;
      placed = c.loop-room.invariant.placed;
      counts = raised_as _ _ _ _ _ (ap (λ (ps : List LayoutPart). values_of ps * g.M.Mapping.steps c.args.mapping.now)
          (take_all q parts past)) c.loop-room.invariant.counts;
    }

pub returns-in_err-next-clause-counts : goal.returns-in_err-next-clause-counts
returns-in_err-next-clause-counts g c =
    let items = c.args.parts.now in
    let parts = parts_of g.G.Group.codes g.G.Group.dictionary items in
    let part = part_of g.G.Group.codes g.G.Group.dictionary c.in-Some.room.part.now in
    let q = length c.loop-room.yielded in
    let s = g.M.Mapping.steps c.args.mapping.now in
    let taken = room_turn _ c.into_iter-room-iterator.result c.in_ok-rooms.rooms.items items c.in_ok-rooms.ensures
    c.into_iter-room-iterator.ensures.into_iter_gives.0
    (c.into_iter-room-iterator.ensures.into_iter_gives.1 ∙ c.in_ok-rooms.rooms.ok.0)
    c.loop-room.yielded c.loop-room.room-iterator c.loop-room.yielded_by c.next.result c.next.new.self
    c.next.ensures.steps
    c.in-Some.room c.in-Some.is in
    let within : q < length parts = rw (parts_count g.G.Group.codes g.G.Group.dictionary items) taken.0 in
    let is = part_of_item g.G.Group.codes g.G.Group.dictionary items q c.in-Some.room.part.now taken.0 taken.1 in
    let runs : values_of (take q parts) * s + length part.tuples * length part.columns * s
    ≡ values_of (take (q + 1) parts) * s =
    omega (
      arith,
      ap (λ (n : ℕ). n * s) (values_more parts q within),
      ap (λ (p : LayoutPart). length p.tuples * length p.columns * s) is,
    ) in
    up_to_more (values_of (take q parts) * s) (length part.tuples * length part.columns * s) _ c.loop-room.first _ _ _
    (omega (arith, runs, mul-le-mul_right s (values_within parts (q + 1)))) c.loop-room.invariant.counts
    c.map_part.ensures.counts

pub returns-in_err-push-clause-counts : goal.returns-in_err-push-clause-counts
returns-in_err-push-clause-counts g c =
    let items = c.args.parts.now in
    let parts = parts_of g.G.Group.codes g.G.Group.dictionary items in
    let part = part_of g.G.Group.codes g.G.Group.dictionary c.in-Some.room.part.now in
    let q = length c.loop-room.yielded in
    let s = g.M.Mapping.steps c.args.mapping.now in
    let taken = room_turn _ c.into_iter-room-iterator.result c.in_ok-rooms.rooms.items items c.in_ok-rooms.ensures
    c.into_iter-room-iterator.ensures.into_iter_gives.0
    (c.into_iter-room-iterator.ensures.into_iter_gives.1 ∙ c.in_ok-rooms.rooms.ok.0)
    c.loop-room.yielded c.loop-room.room-iterator c.loop-room.yielded_by c.next.result c.next.new.self
    c.next.ensures.steps
    c.in-Some.room c.in-Some.is in
    let within : q < length parts = rw (parts_count g.G.Group.codes g.G.Group.dictionary items) taken.0 in
    let is = part_of_item g.G.Group.codes g.G.Group.dictionary items q c.in-Some.room.part.now taken.0 taken.1 in
    let runs : values_of (take q parts) * s + length part.tuples * length part.columns * s
    ≡ values_of (take (q + 1) parts) * s =
    omega (
      arith,
      ap (λ (n : ℕ). n * s) (values_more parts q within),
      ap (λ (p : LayoutPart). length p.tuples * length p.columns * s) is,
    ) in
    up_to_more (values_of (take q parts) * s) (length part.tuples * length part.columns * s) _ c.loop-room.first _ _ _
    (omega (arith, runs, mul-le-mul_right s (values_within parts (q + 1)))) c.loop-room.invariant.counts
    c.map_part.ensures.counts
