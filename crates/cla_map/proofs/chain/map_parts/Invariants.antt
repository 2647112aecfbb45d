use Rattle.std.proofs.Common.{◌≡◌, ◌*◌, length, map, take}
use Rattle.cla_coded.specs.Parts.{parts_of}
use Rattle.cla_map.specs.Stops.{place_in}
use Rattle.cla_meaning.specs.Counts.{AreRaised}
use Rattle.cla_map.specs.FirstStops.{Tells, StopsInParts, mapped_part}
use Rattle.cla_layout.specs.Values.{values_of}
use Rattle.cla_map.specs.Answers.{IsPlaced}
use Rattle.cla_map.proofs.chain.map_parts.Given as goal

-- the parts that were taken
abbrev pub invariant-loop-room : goal.invariant-loop-room
invariant-loop-room g l = record {
  values : parts_of g.G.Group.codes g.G.Group.dictionary l.mapped.items
      ≡ take (length l.yielded) (map (mapped_part (g.M.Mapping.last l.mapping))
      (parts_of g.G.Group.codes g.G.Group.dictionary l.parts));
  tells : Tells (StopsInParts (g.M.Mapping.stop l.mapping) (place_in l.shape)
      (parts_of g.G.Group.codes g.G.Group.dictionary l.parts) (length l.yielded)) l.first;
  placed : IsPlaced l.first;
  counts : AreRaised (values_of (take (length l.yielded) (parts_of g.G.Group.codes g.G.Group.dictionary l.parts))
      * g.M.Mapping.steps l.mapping) l.first l.fn.meter l.meter;
}
