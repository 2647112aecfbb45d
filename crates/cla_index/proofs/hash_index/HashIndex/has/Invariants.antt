use Rattle.std.proofs.Common.{◌≡◌, ℕ, ◌<◌, ◌≤◌, length, false}
use Rattle.cla_index.specs.Chains.{hash_at, bucket_of, up_to_last}
use Rattle.cla_index.proofs.hash_index.HashIndex.has.Given as goal

-- what is sought is at none of the places from the front on
abbrev pub invariant-loop-front : goal.invariant-loop-front
invariant-loop-front g l =
    let buckets = length l.self-inside.latest.items in
    record {
      within : l.front ≤ length l.self;
      front : l.front ≡ up_to_last buckets l.self (bucket_of buckets l.hash) l.front;
      absent : (k : ℕ) → l.front ≤ k → k < length l.self → hash_at l.self k ≡ l.hash → goal.F-post g l.test k false;
    }

abbrev pub decreases-loop-front : goal.decreases-loop-front
decreases-loop-front g l = l.front
