use Rattle.std.proofs.Common.{◌≡◌, ◌<◌, ℕ, pos, length}
use Rattle.std.specs.Prelude.{◌+ℤ◌}
use Rattle.std.specs.Int.{w128}
use Rattle.std.specs.Int.RustNames.{FitsSigned}
use Rattle.cla_layout.specs.Groups.{at}
use Rattle.cla_group_bench.proofs.input.parts_of.Given as goal

-- the parts before this one, each of which may be added to 0
abbrev pub invariant-loop-k : goal.invariant-loop-k
invariant-loop-k l = record {
  count : length l.parts.items ≡ l.k;
  fits : (k : ℕ) → k < l.k → FitsSigned w128 (pos 0 +ℤ at l.parts.items k);
}
