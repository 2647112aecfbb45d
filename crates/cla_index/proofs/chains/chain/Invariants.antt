use Rattle.std.proofs.Common.{◌≡◌, length}
use Rattle.cla_index.specs.Chains.{hashes_of, AreChained}
use Rattle.cla_index.proofs.chains.chain.Given as goal

-- the hashes so far are chained
abbrev pub invariant-loop-k : goal.invariant-loop-k
invariant-loop-k l = record {
  buckets : length l.latest ≡ length l.fn.latest;
  hashes : hashes_of l.links ≡ hashes_of l.fn.links;
  chained : AreChained (length l.fn.latest) l.k l.latest l.links;
}
