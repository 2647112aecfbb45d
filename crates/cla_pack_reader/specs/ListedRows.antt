-- The rows of tuples as they are kept: lists one behind the other, or runs, and marks.
use Rattle.std.specs.Prelude.{◌≡◌, ℕ, ◌+◌, ◌<◌, ◌≤◌, List, [], length, map, Bool, true, false, slice_index_or, eqb}
use Rattle.std.specs.List.{Contains, IsDistinct, range_with_len}
use Rattle.cla_packed.specs.Codes.{has}
use Rattle.cla_packed.specs.Fields.{Place, Read}
use Rattle.cla_packed.specs.Lists.{named}
use Rattle.cla_rows.specs.Chains.{lists_to, begins_to}
use Rattle.cla_runs.specs.declared.run_list.KeyedRun.{KeyedRun}
use Rattle.cla_pack_reader.specs.Places.{Places, Took}

-- the list of tuple t
abbrev pub list_in : List (List ℕ) → ℕ → List ℕ
list_in lists t = slice_index_or lists t []

-- a mark for each row that is listed
abbrev pub AreNamed : ℕ → List (List ℕ) → List Bool → Type 0
AreNamed rows lists marks = marks ≡ map (named lists) (range_with_len 0 rows)

-- the lists one behind the other, and where each of them begins
pub record AreListsOf (lists : List (List ℕ)) (starts places : List ℕ) : Type 0 where
  pub starts_are : starts ≡ begins_to (list_in lists) (length lists + 1)
  pub places_are : places ≡ lists_to (list_in lists) (length lists)

-- a maximal run of a list's rows
pub record IsListRun (rows : ℕ) (list : List ℕ) (run : KeyedRun) : Type 0 where
  pub not_empty : run.begin < run.end
  pub within : run.end ≤ rows
  pub same : (i : ℕ) → run.begin ≤ i → i < run.end → has list i ≡ true
  pub before : (i : ℕ) → i + 1 ≡ run.begin → has list i ≡ false
  pub behind : has list run.end ≡ false

-- all maximal runs of these lists, each of them once
pub record AreRunsOf (rows : ℕ) (lists : List (List ℕ)) (runs : List KeyedRun) : Type 0 where
  pub each : (run : KeyedRun) → Contains runs run → (run.key < length lists)
      × IsListRun rows (list_in lists run.key) run
  pub all : (t i : ℕ) → t < length lists → has (list_in lists t) i ≡ true →
      (run : KeyedRun) × Contains runs run × (run.key ≡ t) × (run.begin ≤ i) × (i < run.end)
  pub once : IsDistinct eqb (map (λ run. run.begin) runs)

-- the lists of all tuples were read; their rows are kept in a form of its own, and have marks
abbrev pub TookRows : (ℕ → List (List ℕ) → Type 0) → ℕ → Places → Places → (Place → Read (List (List ℕ))) → List Bool
    → Type 0
TookRows Are rows b a read marks = (lists : List (List ℕ)) × Took b a read lists × AreNamed rows lists marks
    × Are rows lists
