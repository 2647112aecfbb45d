-- Columns of a matrix that are parted into groups.
use Rattle.std.specs.Prelude.{◌≡◌, ℕ, ◌+◌, ◌<◌, ◌≤◌, List, [], ◌∷◌, length, map, slice_index_or}
use Rattle.cla_layout.specs.Groups.{code_of}
use Rattle.cla_layout.specs.Layouts.{count_of}
use Rattle.cla_grouping.specs.Tuples.{AreColumns}
use Rattle.cla_grouping.specs.Grouping.{GroupOf}

-- the columns of the groups of a cut
abbrev pub columns_in : List GroupOf → List (List ℕ)
columns_in groups = map (λ g. g.columns) groups

-- how often groups have column j
abbrev pub times_in : List (List ℕ) → ℕ → ℕ
times_in [] j = 0
times_in (group ∷ groups) j = count_of group j + times_in groups j

-- each of the first `cols` columns is in one group, and no other is; the columns of a group rise; and the groups
-- stand in
-- the order of their first columns
pub record ArePartitioned (cols : ℕ) (groups : List (List ℕ)) : Type 0 where
  pub each : (q : ℕ) → q < length groups → AreColumns cols (slice_index_or groups q [])
  pub once : (j : ℕ) → j < cols → times_in groups j ≡ 1
  pub no_other : (j : ℕ) → cols ≤ j → times_in groups j ≡ 0
  pub in_order : (q r : ℕ) → q < r → r < length groups → code_of (slice_index_or groups q []) 0
      < code_of (slice_index_or groups r []) 0
