use Rattle.std.proofs.Common.{ℕ, List}
use Rattle.cla_offsets.specs.RowLists.{AreRowLists, AreAtSegment}
use Rattle.cla_offsets.specs.Segments.{AreLists}
use Rattle.cla_offsets.proofs.lists.Lists.from_lists.Given as goal

-- the lists of the first s segments
abbrev pub invariant-loop-s : goal.invariant-loop-s
invariant-loop-s l = record {
  lists : (codes : List ℕ) (rest first_unlisted : ℕ) →
      AreRowLists codes l.rows l.tuples rest first_unlisted l.lists.starts.items l.lists.places.items →
      AreLists l.s (record { codes = codes; tuples = l.tuples; rest = rest }) l.kept
      × AreAtSegment l.s codes l.tuples rest l.lists.starts.items l.lists.places.items l.cursors.items;
}
