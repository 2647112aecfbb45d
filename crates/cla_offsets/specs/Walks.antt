-- Walks over the rows of a segment.
use Rattle.std.specs.Prelude.{◌≡◌, ℕ, ℤ, ◌+◌, ◌<◌, ◌≤◌, List, length, ◌==◌, if◌then◌else◌}
use Rattle.std.specs.List.{list_any}
use Rattle.cla_layout.specs.Groups.{at, code_of, AreGathered}

-- the code of row j once these rows have been given a code
abbrev pub code_given : ℕ → List ℕ → List ℕ → ℕ → ℕ
code_given code rows old j = if list_any (λ row. row == j) rows then code else code_of old j

-- the place of each row may be joined with the part of its code
abbrev pub MayScatter : (ℤ → ℤ → Type 0) → List ℕ → List ℤ → List ℤ → Type 0
MayScatter can_join codes parts old = (i : ℕ) → i < length old → can_join (at old i) (at parts (code_of codes i))

-- the places from place `first` on, which are those of rows with these codes, may be joined with parts; and they are
abbrev pub MayBeJoined : (ℤ → ℤ → Type 0) → ℕ → List ℕ → List ℤ → List ℤ → Type 0
MayBeJoined can_join first codes parts old = (j : ℕ) → j < length codes →
    can_join (at old (first + j)) (at parts (code_of codes j))

pub record AreJoined (join : ℤ → ℤ → ℤ) (first : ℕ) (codes : List ℕ) (parts old new : List ℤ) : Type 0 where
  pub before : (i : ℕ) → i < first → at new i ≡ at old i
  pub joined : (j : ℕ) → j < length codes → at new (first + j) ≡ join (at old (first + j)) (at parts (code_of codes j))
  pub past : (i : ℕ) → first + length codes ≤ i → at new i ≡ at old i

-- the same of the places of a list of offsets, and one part
abbrev pub MayListBeJoined : (ℤ → ℤ → Type 0) → ℕ → List ℕ → ℤ → List ℤ → Type 0
MayListBeJoined can_join first list part old = (n : ℕ) → n < length list →
    can_join (at old (first + code_of list n)) part

pub record IsListJoined (join : ℤ → ℤ → ℤ) (first : ℕ) (list : List ℕ) (part : ℤ) (old new : List ℤ) : Type 0 where
  pub joined : (n : ℕ) → n < length list → at new (first + code_of list n) ≡ join (at old (first + code_of list n)) part
  pub others : (i : ℕ) → ((n : ℕ) → n < length list → first + code_of list n ≡ i → ⊥) → at new i ≡ at old i

-- a list rises
abbrev pub IsRising : List ℕ → Type 0
IsRising list = (m n : ℕ) → m < n → n < length list → code_of list m < code_of list n

-- these are the codes of the rows from row `first` on
abbrev pub AreCodesFrom : ℕ → List ℕ → List ℕ → Type 0
AreCodesFrom first segment codes = (j : ℕ) → j < length segment → code_of codes (first + j) ≡ code_of segment j

-- the places are such sums over the rows before row `first`, from which on the rows have these codes
abbrev pub AreGatheredBefore : ℕ → List ℕ → List ℤ → List ℤ → Type 0
AreGatheredBefore first segment items into = (codes : List ℕ) × AreCodesFrom first segment codes
    × AreGathered codes items first into
