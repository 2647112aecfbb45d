-- New codes for the rows that are kept, numbered by first row, so that each of them has a row.
use Rattle.std.specs.Prelude.{◌≡◌, ℕ, ◌+◌, ◌<◌, ◌≤◌, List, length}
use Rattle.cla_layout.specs.Groups.{code_of, occurrences_of, first_row_of}

-- the new codes of rows, numbered by first row, and the old code that each of them stands for; there were `tuples`
-- old codes
pub record AreRenamed (tuples : ℕ) (old new order : List ℕ) : Type 0 where
  pub rows : length new ≡ length old
  pub named : (i : ℕ) → i < length old → code_of new i < length order
  pub same : (i : ℕ) → i < length old → code_of order (code_of new i) ≡ code_of old i
  pub within : (n : ℕ) → n < length order → code_of order n < tuples
  pub distinct : (m n : ℕ) → m < length order → n < length order → code_of order m ≡ code_of order n → m ≡ n
  pub used : (n : ℕ) → n < length order → 0 < occurrences_of new n
  pub rising : (m n : ℕ) → m < n → n < length order → first_row_of new m < first_row_of new n
  pub few : length order ≤ tuples

-- the new code of each old one, where `none` says that it has none yet
pub record AreNames (none : ℕ) (fresh order : List ℕ) : Type 0 where
  pub names : (k : ℕ) → k < length fresh → code_of fresh k < none → (code_of fresh k < length order)
      × (code_of order (code_of fresh k) ≡ k)
  pub named : (n : ℕ) → n < length order → (code_of order n < length fresh) × (code_of fresh (code_of order n) ≡ n)
  pub count : length order + occurrences_of fresh none ≡ length fresh
  pub few : length fresh ≤ none

-- n is the new code of an old one, and no other new code is made
pub record IsName (old : ℕ) (before after : List ℕ) (n : ℕ) : Type 0 where
  pub named : n < length after
  pub same : code_of after n ≡ old
  pub longer : length before ≤ length after
  pub kept : (m : ℕ) → m < length before → code_of after m ≡ code_of before m
  pub alone : (m : ℕ) → length before ≤ m → m < length after → m ≡ n
