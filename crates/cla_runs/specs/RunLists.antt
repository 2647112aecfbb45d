-- Lists of runs.
use Rattle.std.specs.Prelude.{◌≡◌, ℕ, ◌+◌, ◌<◌, ◌≤◌, List}
use Rattle.cla_layout.specs.Groups.{code_of}
use Rattle.cla_layout.specs.Listed.{rows_of}
use Rattle.cla_rows.specs.RunBounds.{AreRuns, AreMore}
use Rattle.cla_runs.specs.declared.run_list.RunList.{RunList}

-- these are the maximal runs in the first rows of codes
abbrev pub AreRunsIn : RunList → ℕ → List ℕ → ℕ → Type 0
AreRunsIn runs rows codes rest = AreRuns rows codes rest runs.begins.items runs.ends.items runs.keys.items

-- these were the runs in the first rows of some codes, and if the rest has those up to row `end`, are these
abbrev pub Leaves : RunList → ℕ → RunList → Type 0
Leaves before end after = (rows : ℕ) (codes : List ℕ) (rest : ℕ) → AreRunsIn before rows codes rest → rows ≤ end →
    ((i : ℕ) → rows ≤ i → i < end → code_of codes i ≡ rest) → AreRunsIn after end codes rest

-- these were the runs in the first rows of some codes, and with a run of another code than the rest, are these
abbrev pub AddsRun : RunList → ℕ → ℕ → RunList → Type 0
AddsRun before code end after = (rows : ℕ) (codes : List ℕ) (rest : ℕ) → AreRunsIn before rows codes rest →
    (code ≡ rest → ⊥) → AreMore rows end code codes → AreRunsIn after end codes rest

-- these were the runs in the first rows of some codes, and with the rows up to row `end`, which have one code, are
-- these
abbrev pub Adds : RunList → ℕ → ℕ → ℕ → RunList → Type 0
Adds before code rest end after = (rows : ℕ) (codes : List ℕ) → AreRunsIn before rows codes rest →
    AreMore rows end code codes → AreRunsIn after end codes rest

-- the row after run n of code k
abbrev pub end_of : RunList → ℕ → ℕ → ℕ
end_of runs k n = code_of runs.ends.items (code_of (rows_of runs.keys.items k) n + 1)
