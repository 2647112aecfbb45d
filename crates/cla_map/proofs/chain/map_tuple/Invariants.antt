use Rattle.std.proofs.Common.{◌≡◌, ◌+◌, ◌*◌, length, map}
use Rattle.cla_coded.specs.Parts.{part_of}
use Rattle.cla_map.specs.Stops.{place_in}
use Rattle.cla_meaning.specs.Counts.{AreRaised}
use Rattle.cla_map.specs.FirstStops.{Tells, StopsInTuple, part_values}
use Rattle.cla_map.specs.Answers.{IsPlaced}
use Rattle.cla_map.proofs.chain.map_tuple.Given as goal

-- the values before place c
abbrev pub invariant-loop-c : goal.invariant-loop-c
invariant-loop-c g l = record {
  values : map g.N.Number.value l.values.items ≡ part_values (g.M.Mapping.last l.mapping)
      (part_of g.G.Group.codes g.G.Group.dictionary l.part) (l.t * length l.part.columns.items + l.c);
  tells : Tells (StopsInTuple (g.M.Mapping.stop l.mapping) (place_in l.shape)
      (part_of g.G.Group.codes g.G.Group.dictionary l.part) l.t l.c) l.first;
  placed : IsPlaced l.first;
  counts : AreRaised (l.c * g.M.Mapping.steps l.mapping) l.first l.fn.meter l.meter;
}
