-- What holds of first faults.
use Rattle.std.specs.Prelude.{◌≡◌, ℕ, ◌+◌, ◌*◌, ◌<◌, ◌≤◌, Some, None}
use Rattle.cla_num.specs.declared.fault.What.{What}
use Rattle.cla_num.specs.Fault.{cell_fault, fault_at, fault_of}
use Rattle.cla_meaning.specs.Entries.{ExactEntry}

-- the cell in row i and column j is faulty, and none before it is
pub record IsFirstFaulty (bits rows cols : ℕ) (exact : ExactEntry) (i j : ℕ) (what : What) : Type 0 where
  pub row : i < rows
  pub col : j < cols
  pub faulty : cell_fault bits (exact i j) ≡ Some what
  pub least : (r c : ℕ) (w : What) → r < rows → c < cols → cell_fault bits (exact r c) ≡ Some w
      → i * cols + j ≤ r * cols + c

pub record FaultsAreFirst : Type 0 where
  pub none : (bits rows cols : ℕ) (exact : ExactEntry) → 1 ≤ cols
      → ((i j : ℕ) → i < rows → j < cols → cell_fault bits (exact i j) ≡ None) → fault_of bits rows cols exact ≡ None
  pub first : (bits rows cols : ℕ) (exact : ExactEntry) (i j : ℕ) (what : What) → 1 ≤ cols
      → IsFirstFaulty bits rows cols exact i j what
      → fault_of bits rows cols exact ≡ Some (fault_at cols (i * cols + j) what)
