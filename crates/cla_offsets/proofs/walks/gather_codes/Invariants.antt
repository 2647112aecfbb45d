use Rattle.std.proofs.Common.{◌+◌, ℕ, List, map}
use Rattle.cla_offsets.specs.Walks.{AreCodesFrom}
use Rattle.cla_layout.specs.Groups.{AreGathered}
use Rattle.cla_offsets.proofs.walks.gather_codes.Given as goal

-- the items before item j are added
abbrev pub invariant-loop-j : goal.invariant-loop-j
invariant-loop-j g l = record {
  so_far : (all : List ℕ) → AreCodesFrom l.first l.codes all →
      AreGathered all (map g.N.Number.value l.rows) l.first l.fn.into →
      AreGathered all (map g.N.Number.value l.rows) (l.first + l.j) l.into;
}
