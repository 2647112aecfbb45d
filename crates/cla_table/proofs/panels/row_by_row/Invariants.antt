use Rattle.std.proofs.Common.{◌≡◌, ℕ, ◌-◌, ◌*◌, ◌/◌, ◌%◌, ◌<◌, ◌≤◌, length, get_or}
use Rattle.cla_table.specs.Places.{place_of}
use Rattle.cla_table.proofs.panels.row_by_row.Given as goal

-- the panels so far are turned, and the others are as they were
abbrev pub invariant-loop-first : goal.invariant-loop-first
invariant-loop-first g l = record {
  within : l.first ≤ l.rows;
  at_panel : l.first < l.rows → l.first % l.panel ≡ 0;
  count : length l.cells.items ≡ l.rows * l.cols;
  done : (k : ℕ) (d : g.row.N.Denot) → k < l.first * l.cols
      → get_or l.cells.items k d ≡ get_or l.fn.cells.items (place_of l.panel l.rows l.cols (k / l.cols) (k % l.cols))
      d;
  rest : (k : ℕ) (d : g.row.N.Denot) → l.first * l.cols ≤ k → get_or l.cells.items k d ≡ get_or l.fn.cells.items k d;
}

abbrev pub decreases-loop-first : goal.decreases-loop-first
decreases-loop-first g l = l.rows - l.first
