use Rattle.std.proofs.Common.{◌≡◌, ◌*◌, ◌<◌, ◌++◌, ◌∷◌, [], ℕ, List, length}
use Rattle.cla_offsets.specs.RowLists.{AreAtSegment}
use Rattle.cla_offsets.specs.Segments.{segment_rows}
use Rattle.cla_offsets.proofs.ListWalks.{IsUnderWay}
use Rattle.cla_offsets.proofs.lists.Lists.add_listed.Given as goal

-- the lists of the codes before code k are added
abbrev pub invariant-loop-k : goal.invariant-loop-k
invariant-loop-k l = record {
  bases : l.self.bases.items ≡ l.fn.self.bases.items ++ length l.fn.self.offsets.items ∷ [];
  added : (codes : List ℕ) (rest : ℕ) →
      AreAtSegment l.s codes l.tuples rest l.lists.starts.items l.lists.places.items l.fn.cursors →
      l.s * segment_rows < length codes →
      IsUnderWay l.k l.s codes rest l.fn.self.starts.items l.self.starts.items l.fn.self.offsets.items
      l.self.offsets.items l.fn.cursors l.cursors;
}
