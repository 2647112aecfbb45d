-- The runs of one code.
use Rattle.std.specs.Prelude.{◌≡◌, ℕ, ◌+◌, ◌-◌, ◌<◌, ◌≤◌, List, length, map, ◌==◌, ◌&&◌, not}
use Rattle.cla_layout.specs.Groups.{code_of}
use Rattle.cla_layout.specs.Listed.{rows_where, rows_of, begins_run, run_begins}

-- the rows from row begin to before row end have code k, and the row after them, if there is one, hasn't
pub record IsMaximalRun (codes : List ℕ) (k begin end : ℕ) : Type 0 where
  pub not_empty : begin < end
  pub within : end ≤ length codes
  pub same : (i : ℕ) → begin ≤ i → i < end → code_of codes i ≡ k
  pub last : end < length codes → code_of codes end ≡ k → ⊥

-- where the runs of all codes but the rest begin, and their codes
abbrev pub listed_begins : List ℕ → ℕ → List ℕ
listed_begins codes rest = rows_where (λ i. not (code_of codes i == rest) && begins_run codes (code_of codes i) i)
    (length codes)

abbrev pub listed_keys : List ℕ → ℕ → List ℕ
listed_keys codes rest = map (code_of codes) (listed_begins codes rest)

-- the run with this number, among all, ends before row end
abbrev pub IsListedRun : List ℕ → ℕ → ℕ → ℕ → Type 0
IsListedRun codes rest n end = let begin = code_of (listed_begins codes rest) n in
    IsMaximalRun codes (code_of codes begin) begin end

-- the runs of each code are those of all runs that have its key
abbrev pub AreRunsByKey : List ℕ → ℕ → Type 0
AreRunsByKey codes rest = (k : ℕ) → (k ≡ rest → ⊥) →
    run_begins codes k ≡ map (code_of (listed_begins codes rest)) (rows_of (listed_keys codes rest) k)

-- where the run of code k before run n ends: at row 0 before the first
pub record IsPreviousEnd (codes : List ℕ) (k n end : ℕ) : Type 0 where
  pub first : n ≡ 0 → end ≡ 0
  pub later : (m : ℕ) → n ≡ m + 1 → IsMaximalRun codes k (code_of (run_begins codes k) m) end

-- run n of code k: how many rows it begins after the end of the run before it, and how many rows it has
pub record IsRun (codes : List ℕ) (k n gap size : ℕ) : Type 0 where
  pub within : gap ≤ code_of (run_begins codes k) n
  pub previous : IsPreviousEnd codes k n (code_of (run_begins codes k) n - gap)
  pub run : IsMaximalRun codes k (code_of (run_begins codes k) n) (code_of (run_begins codes k) n + size)
