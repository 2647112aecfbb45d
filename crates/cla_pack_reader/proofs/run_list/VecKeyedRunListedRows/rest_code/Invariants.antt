use Rattle.std.proofs.Common.{ℕ, List}
use Rattle.cla_packed.specs.Lists.{lists_of}
use Rattle.cla_pack_reader.specs.ListedParts.{HasRest}
use Rattle.cla_pack_reader.specs.ListedRows.{AreRunsOf}
use Rattle.cla_pack_reader.proofs.RestPlaces.{SoFar}
use Rattle.cla_pack_reader.proofs.run_list.VecKeyedRunListedRows.rest_code.Given as goal

-- the tuples below r begin before that row, and so far no other does
abbrev pub invariant-loop-run : goal.invariant-loop-run
invariant-loop-run l = (rows : ℕ) (owners : List ℕ) (h : HasRest rows l._d owners l.first)
    (s : AreRunsOf rows (lists_of l._d owners) l.run-items)
    → SoFar rows l._d l.first owners l.run-items h s l.run-index l.r
