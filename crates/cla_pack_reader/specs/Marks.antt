-- The columns that are in groups, as marks.
use Rattle.std.specs.Prelude.{◌≡◌, ℕ, ◌<◌, List, [], ◌∷◌, Bool, true, false, slice_index_or}
use Rattle.cla_packed.specs.Codes.{has}
use Rattle.cla_packed.specs.Lists.{next_from}

-- each of the first `cols` columns that is taken has a mark
abbrev pub AreMarks : ℕ → List ℕ → List Bool → Type 0
AreMarks cols taken marks = (c : ℕ) → c < cols → slice_index_or marks c false ≡ has taken c

-- the least column that isn't taken
abbrev pub IsLeast : List ℕ → ℕ → Type 0
IsLeast taken n = ((c : ℕ) → c < n → has taken c ≡ true) × (has taken n ≡ false)

-- the least column that may stand behind these, which is the only one where there is none yet
abbrev pub IsNext : List ℕ → List ℕ → ℕ → Type 0
IsNext taken [] next = IsLeast taken next
IsNext taken (c ∷ so_far) next = next ≡ next_from 0 (c ∷ so_far)
