-- What reading runs gives, with the state that it leaves.
use Rattle.std.specs.Prelude.{◌≡◌, ℕ, ◌+◌, ◌<◌, ◌≤◌, List, [], ◌∷◌, ◌++◌, length, Bool, true, false, ◌&&◌, not}
use Rattle.std.specs.Prelude.{nat_lt, nat_le, Result, Ok, Err, slice_index_or}
use Rattle.std.specs.List.{list_all, range_with_len}
use Rattle.cla_packed.specs.declared.fault.PackFault.{PackFault}
use Rattle.cla_packed.specs.Fields.{Place, Read}
use Rattle.cla_packed.specs.Lists.{next_from, named}
use Rattle.cla_packed.specs.Runs.{Run, end_of, rows_of_runs}
use Rattle.cla_runs.specs.declared.run_list.KeyedRun.{KeyedRun}
use Rattle.cla_pack_reader.specs.declared.walk.Walk.{Walk}
use Rattle.cla_pack_reader.specs.ListedRows.{AreRunsOf}
use Rattle.cla_pack_reader.specs.Places.{Places, Took, Refused}
use Rattle.cla_pack_reader.specs.Walks.{IsState, at_start}

-- from this row on, the rows of earlier tuples alone have marks
abbrev pub AreNamedFrom : ℕ → List (List ℕ) → List Bool → Type 0
AreNamedFrom first earlier marks = (i : ℕ) → first ≤ i → i < length marks
    → slice_index_or marks i false ≡ named earlier i

-- behind some runs of a tuple, each of which has a row
pub record IsRunState (earlier : List (List ℕ)) (runs : List Run) (marks : List Bool) (walk : Walk)
    (floor : ℕ) : Type 0 where
  pub state : IsState earlier (rows_of_runs 0 runs) marks walk floor
  pub end_is : next_from 0 (rows_of_runs 0 runs) ≡ end_of 0 runs
  pub some_is : nat_lt 0 (length (rows_of_runs 0 runs)) ≡ nat_lt 0 (length runs)

-- no earlier tuple names one of these rows
abbrev pub are_apart : List (List ℕ) → List ℕ → Bool
are_apart earlier rows = list_all (λ i. not (named earlier i)) rows

-- whether a run of so many rows may begin at this row
abbrev pub fits_rows : ℕ → List (List ℕ) → ℕ → ℕ → Bool
fits_rows rows earlier first n = nat_lt 0 n && nat_le (first + n) rows && are_apart earlier (range_with_len first n)

-- the length of a run that begins at this row, or the fault
abbrev pub GivesLength : List (List ℕ) → ℕ → Result ℕ PackFault → Places → Places → (Place → Read ℕ) → Type 0
GivesLength earlier first (Ok n) b a read = Took b a read n × (are_apart earlier (range_with_len first n) ≡ true)
GivesLength earlier first (Err e) b a read = Refused b read e

-- a run behind others of tuple t, as it was read and as it is kept
pub record IsNextRun (t : ℕ) (earlier : List (List ℕ)) (so_far : List Run) (read : Run) (run : KeyedRun) : Type 0 where
  pub key : run.key ≡ t
  pub begin : run.begin ≡ end_of 0 so_far + read.0
  pub end : run.end ≡ run.begin + read.1
  pub gap : 0 < length so_far → 0 < read.0
  pub apart : are_apart earlier (range_with_len run.begin read.1) ≡ true

-- one run more, or the fault
abbrev pub GivesRun : ℕ → List (List ℕ) → List Run → Result KeyedRun PackFault → Places → Places
    → (Place → Read Run) → Type 0
GivesRun t earlier so_far (Ok run) b a read = (r : Run) × Took b a read r × IsNextRun t earlier so_far r run
GivesRun t earlier so_far (Err e) b a read = Refused b read e

-- the runs of a tuple, or the fault
abbrev pub GivesRuns : ℕ → List (List ℕ) → List Bool → List KeyedRun → ℕ → Result Walk PackFault → Places → Places
    → (Place → Read (List Run)) → Type 0
GivesRuns rows earlier marks kept floor (Ok walk) b a read = (runs : List Run) × Took b a read runs
    × IsRunState earlier runs marks walk floor × AreRunsOf rows (earlier ++ rows_of_runs 0 runs ∷ []) kept
GivesRuns rows earlier marks kept floor (Err e) b a read = Refused b read e

-- the lists of some tuples are marked, and kept as runs
pub record AreRunsSoFar (rows : ℕ) (lists : List (List ℕ)) (marks : List Bool) (kept : List KeyedRun) (floor : ℕ)
    : Type 0 where
  pub state : IsState lists [] marks at_start floor
  pub runs : AreRunsOf rows lists kept

-- one list more, or the fault
abbrev pub GivesRunList : ℕ → List (List ℕ) → List Bool → List KeyedRun → Result ℕ PackFault → Places → Places
    → (Place → Read (List ℕ)) → Type 0
GivesRunList rows earlier marks kept (Ok floor) b a read = (list : List ℕ) × Took b a read list
    × AreRunsSoFar rows (earlier ++ list ∷ []) marks kept floor
GivesRunList rows earlier marks kept (Err e) b a read = Refused b read e
