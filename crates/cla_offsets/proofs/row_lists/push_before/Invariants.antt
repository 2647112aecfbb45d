use Rattle.std.proofs.Common.{◌≡◌, ◌<◌, ◌-◌, ◌++◌, ℕ, map, take}
use Rattle.cla_layout.specs.Groups.{code_of}
use Rattle.cla_offsets.proofs.row_lists.push_before.Given as goal

-- the first n rows are before row `end`, and appended
abbrev pub invariant-loop-n : goal.invariant-loop-n
invariant-loop-n l = record {
  before : (m : ℕ) → m < l.n → code_of l.rows m < l.end;
  pushed : l.offsets.items ≡ l.fn.offsets.items ++ map (λ row. row - l.first) (take l.n l.rows);
}
