-- Walks over rows, stretch by stretch: what has come of the rows before row `to`.
use Rattle.std.specs.Prelude.{◌≡◌, ℕ, ℤ, ◌+◌, ◌<◌, ◌≤◌, List, length}
use Rattle.cla_layout.specs.Groups.{at, code_of, gathered_to}
use Rattle.cla_rows.specs.RunBounds.{IsStretch}

-- each of them is joined with the part of its code, and the others are as they were
pub record AreJoinedTo (to : ℕ) (join : ℤ → ℤ → ℤ) (codes : List ℕ) (parts old new : List ℤ) : Type 0 where
  pub done : (i : ℕ) → i < to → at new i ≡ join (at old i) (at parts (code_of codes i))
  pub left : (i : ℕ) → to ≤ i → at new i ≡ at old i

-- the rows from row a to before row b are joined with a part, whatever has come of those before
abbrev pub JoinsOn : (ℤ → ℤ → ℤ) → ℤ → ℕ → ℕ → List ℤ → List ℤ → Type 0
JoinsOn join part a b before after = (codes : List ℕ) (k : ℕ) (parts old : List ℤ) → IsStretch codes k a b →
    part ≡ at parts k →
    AreJoinedTo a join codes parts old before → AreJoinedTo b join codes parts old after

-- the items of each code are added up
pub record AreGatheredTo (to : ℕ) (codes : List ℕ) (items sums : List ℤ) : Type 0 where
  pub sum : (k : ℕ) → k < length sums → at sums k ≡ gathered_to codes items k to

-- the rows from row a to before row b, which have code k, are gathered, whatever has come of those before
abbrev pub GathersOn : List ℤ → ℕ → ℕ → ℕ → List ℤ → List ℤ → Type 0
GathersOn items k a b before after = (codes : List ℕ) → IsStretch codes k a b → AreGatheredTo a codes items before →
    AreGatheredTo b codes items after

-- of the rows from row a on, each has its code
pub record AreCodedTo (to : ℕ) (codes : List ℕ) (a : ℕ) (made : List ℕ) : Type 0 where
  pub done : (j : ℕ) → j < length made → a + j < to → code_of made j ≡ code_of codes (a + j)
