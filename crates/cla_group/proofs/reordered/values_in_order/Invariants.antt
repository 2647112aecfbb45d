use Rattle.std.proofs.Common.{◌≡◌, ◌<◌, ◌+◌, ◌*◌, ℕ, length, map}
use Rattle.cla_layout.specs.Groups.{at, code_of}
use Rattle.cla_group.proofs.reordered.values_in_order.Given as goal

-- the values of the tuples so far
abbrev pub invariant-loop-k : goal.invariant-loop-k
invariant-loop-k g l = record {
  count : length l.kept.items ≡ l.k-index * l.width;
  so_far : (k c : ℕ) → k < l.k-index → c < l.width
      → at (map g.N.Number.value l.kept.items) (k * l.width + c)
      ≡ at (map g.N.Number.value l.values) (code_of l.order k * l.width + c);
}
