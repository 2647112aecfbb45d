use Rattle.std.proofs.Common.{◌≡◌, ◌<◌, ◌+◌, ℕ}
use Rattle.cla_layout.specs.Groups.{at, code_of}
use Rattle.cla_offsets.proofs.walks.join_list.Given as goal

-- the places so far are joined, and no others
abbrev pub invariant-loop-offset : goal.invariant-loop-offset
invariant-loop-offset g l = record {
  joined : (n : ℕ) → n < l.offset-index → at l.into (l.first + code_of l.offsets n) ≡
      g.J.Join.join (at l.fn.into (l.first + code_of l.offsets n)) l.part;
  others : (i : ℕ) → ((n : ℕ) → n < l.offset-index → l.first + code_of l.offsets n ≡ i → ⊥) →
      at l.into i ≡ at l.fn.into i;
}
