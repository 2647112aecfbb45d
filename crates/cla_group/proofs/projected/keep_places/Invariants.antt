use Rattle.std.proofs.Common.{◌≡◌, ◌++◌, map, take}
use Rattle.cla_group.specs.Rows.{projected}
use Rattle.cla_group.proofs.projected.keep_places.Given as goal

-- the places before this one are kept
abbrev pub invariant-loop-place : goal.invariant-loop-place
invariant-loop-place g l = record {
  so_far : map g.N.Number.value l.kept.items ≡ map g.N.Number.value l.initial.kept.items
      ++ projected (take l.place-index l.places)
      (map g.N.Number.value l.tuple);
}
