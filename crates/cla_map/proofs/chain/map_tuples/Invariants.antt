use Rattle.std.proofs.Common.{◌≡◌, ◌*◌, ℕ, length, map}
use Rattle.cla_layout.specs.Groups.{value_of, first_row_of}
use Rattle.cla_layout.specs.Layouts.{column_at}
use Rattle.cla_coded.specs.Parts.{part_of}
use Rattle.cla_map.specs.Stops.{place_in}
use Rattle.cla_meaning.specs.Counts.{AreRaised}
use Rattle.cla_map.specs.FirstStops.{Tells, StopsIn, part_values}
use Rattle.cla_map.specs.Answers.{IsPlaced}
use Rattle.cla_map.proofs.chain.map_tuples.Given as goal

-- the tuples before t
abbrev pub invariant-loop-t : goal.invariant-loop-t
invariant-loop-t g l = record {
  values : map g.N.Number.value l.values.items ≡ part_values (g.M.Mapping.last l.mapping)
      (part_of g.G.Group.codes g.G.Group.dictionary l.part) (l.t * length l.part.columns.items);
  tells : Tells (StopsIn (λ (c : ℕ). g.M.Mapping.stop l.mapping (column_at l.part.columns.items c)) l.t
      (length l.part.columns.items)
      (λ k c. place_in l.shape (first_row_of (g.G.Group.codes l.part.group) k)
      (column_at l.part.columns.items c)) (value_of (g.G.Group.dictionary l.part.group)))
      l.first;
  placed : IsPlaced l.first;
  counts : AreRaised (l.t * length l.part.columns.items * g.M.Mapping.steps l.mapping) l.first l.fn.meter
      l.meter;
}
