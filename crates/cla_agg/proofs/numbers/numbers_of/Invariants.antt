use Rattle.std.proofs.Common.{◌≡◌, map, take}
use Rattle.cla_agg.proofs.numbers.numbers_of.Given as goal

-- the cells before this place
abbrev pub invariant-loop-place : goal.invariant-loop-place
invariant-loop-place g l = map g.N.Number.value l.numbers.items ≡ take l.place l.cells
