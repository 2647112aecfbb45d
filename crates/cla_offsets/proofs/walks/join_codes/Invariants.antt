use Rattle.std.proofs.Common.{◌≡◌, ◌<◌, ◌≤◌, ◌+◌, ℕ}
use Rattle.cla_layout.specs.Groups.{at, code_of}
use Rattle.cla_offsets.proofs.walks.join_codes.Given as goal

-- the first j places are joined
abbrev pub invariant-loop-j : goal.invariant-loop-j
invariant-loop-j g l = record {
  before : (i : ℕ) → i < l.first → at l.into i ≡ at l.fn.into i;
  joined : (i : ℕ) → i < l.j → at l.into (l.first + i) ≡ g.J.Join.join (at l.fn.into (l.first + i))
      (at l.parts (code_of l.codes i));
  left : (i : ℕ) → l.first + l.j ≤ i → at l.into i ≡ at l.fn.into i;
}
