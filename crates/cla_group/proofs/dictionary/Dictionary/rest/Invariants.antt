use Rattle.std.proofs.Common.{◌≡◌, ◌<◌, false, ℕ, [], slice_index_or}
use Rattle.cla_layout.specs.Listed.{is_zero}
use Rattle.cla_group.proofs.dictionary.Dictionary.rest.Given as goal

-- no tuple before tuple k is one of zeros
abbrev pub invariant-loop-k : goal.invariant-loop-k
invariant-loop-k g l = record { others : (j : ℕ) → j < l.k → is_zero (slice_index_or l.self.tuples j []) ≡ false }
