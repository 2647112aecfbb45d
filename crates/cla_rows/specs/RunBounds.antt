-- Rows that are kept as runs (PVLDB 9(12), run-length encoding). One code, the rest, has no runs; the maximal runs of
-- all
-- others stand in the order of rows. Run n goes from begin n to before end n + 1, and has key n. The rows before it,
-- from
-- end n to before begin n, have the rest; so end 0 is row 0, and the last begin is where the rows end.
use Rattle.std.specs.Prelude.{◌≡◌, ℕ, ◌+◌, ◌-◌, ◌/◌, ◌%◌, ◌==◌, ◌<◌, ◌≤◌, List, length, map, nat_lt, nat_le}
use Rattle.std.specs.Prelude.{if◌then◌else◌}
use Rattle.std.specs.List.{range_with_len, position_or_len}
use Rattle.cla_layout.specs.Groups.{code_of}

-- the rows from row a to before row b have code k
pub record IsStretch (codes : List ℕ) (k a b : ℕ) : Type 0 where
  pub order : a ≤ b
  pub within : b ≤ length codes
  pub same : (i : ℕ) → a ≤ i → i < b → code_of codes i ≡ k

-- the maximal runs in the first rows of codes
pub record AreRuns (rows : ℕ) (codes : List ℕ) (rest : ℕ) (begins ends keys : List ℕ) : Type 0 where
  pub a_begin_each : length begins ≡ length keys + 1
  pub an_end_each : length ends ≡ length keys + 1
  pub first : code_of ends 0 ≡ 0
  pub last : code_of begins (length keys) ≡ rows
  pub rising : (n : ℕ) → n ≤ length keys → code_of ends n ≤ code_of begins n
  pub not_empty : (n : ℕ) → n < length keys → code_of begins n < code_of ends (n + 1)
  pub in_gap : (n i : ℕ) → n ≤ length keys → code_of ends n ≤ i → i < code_of begins n → code_of codes i ≡ rest
  pub in_run : (n i : ℕ) → n < length keys → code_of begins n ≤ i → i < code_of ends (n + 1) →
      code_of codes i ≡ code_of keys n
  pub listed : (n : ℕ) → n < length keys → code_of keys n ≡ rest → ⊥
  pub apart : (n : ℕ) → n + 1 < length keys → code_of ends (n + 1) ≡ code_of begins (n + 1) →
      code_of keys n ≡ code_of keys (n + 1) → ⊥

-- the rows from row `rows` to before row `end` have one code, which the row before them hasn't
pub record AreMore (rows end code : ℕ) (codes : List ℕ) : Type 0 where
  pub not_empty : rows < end
  pub same : (i : ℕ) → rows ≤ i → i < end → code_of codes i ≡ code
  pub apart : 0 < rows → code_of codes rows ≡ code_of codes (rows - 1) → ⊥

-- how many runs end at row i or before it
abbrev pub ended_by : List ℕ → ℕ → ℕ
ended_by ends i = position_or_len (λ end. nat_lt i end) ends - 1

-- the code of row i, by the runs: it lies in the first that has not ended, or before it
abbrev pub code_in_runs : ℕ → List ℕ → List ℕ → List ℕ → ℕ → ℕ
code_in_runs rest begins ends keys i = let n = ended_by ends i in if nat_le (code_of begins n) i then code_of keys n
    else rest

-- the codes of rows, by their runs
unfoldable pub codes_in_runs : ℕ → List ℕ → List ℕ → List ℕ → List ℕ
codes_in_runs rest begins ends keys =
    map (code_in_runs rest begins ends keys) (range_with_len 0 (code_of begins (length keys)))

-- All rows, stretch by stretch: stretch 2 n is before run n, and has the rest, and stretch 2 n + 1 is run n. Where each
-- begins, and its code.
abbrev pub edge : List ℕ → List ℕ → ℕ → ℕ
edge begins ends s = if s % 2 == 0 then code_of ends (s / 2) else code_of begins (s / 2)

abbrev pub stretch_code : ℕ → List ℕ → ℕ → ℕ
stretch_code rest keys s = if s % 2 == 0 then rest else code_of keys (s / 2)
