use Rattle.cla_offsets.proofs.CountedApart.{AreCountedApart}
use Rattle.cla_offsets.proofs.listed.counted_apart.Given as goal

-- the rows from row i on are counted
abbrev pub invariant-loop-i : goal.invariant-loop-i
invariant-loop-i l = record {
  counted : AreCountedApart l.i l.codes l.tuples l.rest l.counts.items l.first_rows.items l.unlisted l.first_unlisted;
}
