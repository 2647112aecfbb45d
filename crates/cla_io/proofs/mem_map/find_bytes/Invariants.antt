use Rattle.std.proofs.Common.{◌≡◌}
use Rattle.std.specs.Ordering.{nat_cmp}
use Rattle.std.specs.Cmp.Lexicographic.{slice_cmp}
use Rattle.std.specs.FinMap as fin
use Rattle.cla_io.specs.MemTold.{told_items}
use Rattle.cla_io.proofs.mem_map.find_bytes.Given as goal

-- what is left has the same at this name as the whole
abbrev pub invariant-loop-key : goal.invariant-loop-key
invariant-loop-key l = record {
  can_next : (goal.iterator-loop-key).can_next l.key-iterator;
  finite : (goal.iterator-loop-key).is_finite l.key-iterator;
  same : fin.find (slice_cmp nat_cmp) l.name (told_items l.key-iterator)
      ≡ fin.find (slice_cmp nat_cmp) l.name (told_items l.files.entries);
}
