use Rattle.std.proofs.Common.{◌≡◌, ℕ, ◌+◌, ◌*◌, ◌/◌, ◌%◌, ◌<◌, length, get_or}
use Rattle.cla_table.proofs.panels.turn.Given as goal

abbrev pub invariant-loop-k : goal.invariant-loop-k
invariant-loop-k g l = record {
  kept : l.copy.items ≡ l.fn.panel;
  place : l.k < length l.fn.panel → l.place ≡ (l.k % l.cols) * l.height + l.k / l.cols;
  done : (i : ℕ) (d : g.row.N.Denot) → i < l.k
      → get_or l.panel i d ≡ get_or l.fn.panel ((i % l.cols) * l.height + i / l.cols) d;
}
