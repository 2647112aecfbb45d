use Rattle.std.proofs.Common.{◌≡◌, ◌+◌, map, drop}
use Rattle.cla_map.specs.Steps.{step_cell}
use Rattle.cla_map.specs.Stops.{last_value, stop_from}
use Rattle.cla_map.proofs.misfit.map_value.Given as goal

-- the steps that are left end as all steps do
abbrev pub invariant-loop-op : goal.invariant-loop-op
invariant-loop-op g l = record {
  value : last_value g.N.Number.BITS (map (step_cell g.N.Number.value) (drop l.op l.steps)) (g.N.Number.value l.value)
      ≡ last_value g.N.Number.BITS (map (step_cell g.N.Number.value) l.steps) (g.N.Number.value l.fn.x);
  stop : stop_from g.N.Number.BITS l.op (map (step_cell g.N.Number.value) (drop l.op l.steps))
      (g.N.Number.value l.value) ≡ stop_from g.N.Number.BITS 0 (map (step_cell g.N.Number.value) l.steps)
      (g.N.Number.value l.fn.x);
  counts : l.meter ≡ record l.fn.meter { maps = l.fn.meter.maps + l.op };
}
