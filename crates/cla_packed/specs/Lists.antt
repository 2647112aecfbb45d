-- Rows that are listed tuple by tuple.
use Rattle.std.specs.Prelude.{◌≡◌, ℕ, ◌+◌, ◌<◌, ◌≤◌, List, [], ◌∷◌, length, map, Bool, true, false, ◌==◌}
use Rattle.std.specs.Prelude.{if◌then◌else◌, slice_index_or}
use Rattle.std.specs.List.{list_any, position_or_len, range_with_len, AllByRecursion}
use Rattle.cla_layout.specs.Groups.{code_of, AreNumbered}
use Rattle.cla_packed.specs.Codes.{has}

-- the number behind the last one of a rising list; behind nothing stands a
abbrev pub next_from : ℕ → List ℕ → ℕ
next_from a [] = a
next_from a (i ∷ more) = next_from (i + 1) more

-- each number is above the one before, and the first is at least a
abbrev pub RisingFrom : ℕ → List ℕ → Type 0
RisingFrom a [] = Unit {0}
RisingFrom a (i ∷ more) = (a ≤ i) × RisingFrom (i + 1) more

-- whether one of these lists has row i
abbrev pub named : List (List ℕ) → ℕ → Bool
named lists i = list_any (λ list. has list i) lists

abbrev pub first_of : List ℕ → ℕ
first_of list = slice_index_or list 0 0

-- the row behind the first row of the last list; 0 where there is no list
abbrev pub floor_of : List (List ℕ) → ℕ
floor_of lists = next_from 0 (map first_of lists)

-- a list of rows that may stand behind these
pub record IsList (rows : ℕ) (earlier : List (List ℕ)) (list : List ℕ) : Type 0 where
  pub some : 0 < length list
  pub rising : RisingFrom 0 list
  pub within : next_from 0 list ≤ rows
  pub apart : AllByRecursion (λ i. named earlier i ≡ false) list
  pub first : floor_of earlier ≤ first_of list

-- which list has row i; the number of lists where none has it
abbrev pub owner_in : List (List ℕ) → ℕ → ℕ
owner_in lists i = position_or_len (λ list. has list i) lists

abbrev pub owners_of : ℕ → List (List ℕ) → List ℕ
owners_of rows lists = map (owner_in lists) (range_with_len 0 rows)

-- the rows with this code, if the first one is row a
abbrev pub rows_from : ℕ → List ℕ → ℕ → List ℕ
rows_from a [] k = []
rows_from a (c ∷ codes) k = if c == k then a ∷ rows_from (a + 1) codes k else rows_from (a + 1) codes k

abbrev pub lists_of : ℕ → List ℕ → List (List ℕ)
lists_of d owners = map (rows_from 0 owners) (range_with_len 0 d)

-- each row has one of d owners, which are numbered by first row, or none, which is d
pub record AreOwners (rows d : ℕ) (owners : List ℕ) : Type 0 where
  pub count : length owners ≡ rows
  pub each : (i : ℕ) → i < rows → code_of owners i ≤ d
  pub used : (k : ℕ) → k < d → has owners k ≡ true
  pub numbered : AreNumbered owners d
