use Rattle.std.proofs.Common.{◌≡◌, ◌<◌, true, ℕ, pos, map}
use Rattle.std.specs.Ordering.{int_eq}
use Rattle.cla_layout.specs.Groups.{at}
use Rattle.cla_pack_reader.proofs.tuples.is_zero.Given as goal

-- the values before this one are 0
abbrev pub invariant-loop-value : goal.invariant-loop-value
invariant-loop-value g l = record {
  zeros : (c : ℕ) → c < l.value-index → int_eq (at (map g.N.Number.value l.tuple) c) (pos 0) ≡ true;
}
