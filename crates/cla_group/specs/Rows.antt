-- Parts of groups: some of the rows, or some of the columns.
use Rattle.std.specs.Prelude.{◌≡◌, ℕ, ℤ, ◌+◌, ◌*◌, ◌<◌, List, length, map, ◌↔◌}
use Rattle.cla_layout.specs.Groups.{at, code_of, cell_of}
use Rattle.cla_layout.specs.Tuples.{tuples_of}

-- the n rows from row a on: they keep their values, and two of them have equal codes exactly where they had
pub record AreRowsFrom (a n width : ℕ) (codes : List ℕ) (tuples : List (List ℤ)) (codes' : List ℕ)
    (tuples' : List (List ℤ)) : Type 0 where
  pub rows : length codes' ≡ n
  pub cells : (i c : ℕ) → i < n → c < width → cell_of codes' tuples' i c ≡ cell_of codes tuples (a + i) c
  pub alike : (i j : ℕ) → i < n → j < n →
      (code_of codes' i ≡ code_of codes' j) ↔ (code_of codes (a + i) ≡ code_of codes (a + j))

-- places in rising order, each below the width
pub record ArePlaces (width : ℕ) (places : List ℕ) : Type 0 where
  pub some : 0 < length places
  pub rising : (c d : ℕ) → c < d → d < length places → code_of places c < code_of places d
  pub within : (c : ℕ) → c < length places → code_of places c < width

-- what a tuple keeps in these places
abbrev pub projected : List ℕ → List ℤ → List ℤ
projected places tuple = map (at tuple) places
