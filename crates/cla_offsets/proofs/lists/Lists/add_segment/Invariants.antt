use Rattle.std.proofs.Common.{◌≡◌, ◌++◌, ◌∷◌, [], length}
use Rattle.cla_offsets.specs.Segments.{listed}
use Rattle.cla_rows.specs.Chains.{lists_to, begins_to}
use Rattle.cla_offsets.proofs.lists.Lists.add_segment.Given as goal

-- the lists of the codes before code k are added
abbrev pub invariant-loop-k : goal.invariant-loop-k
invariant-loop-k l = record {
  bases : l.self.bases.items ≡ l.fn.self.bases.items ++ length l.fn.self.offsets.items ∷ [];
  starts : l.self.starts.items ≡ l.fn.self.starts.items ++ begins_to (listed l.codes l.rest) l.k;
  offsets : l.self.offsets.items ≡ l.fn.self.offsets.items ++ lists_to (listed l.codes l.rest) l.k;
}
