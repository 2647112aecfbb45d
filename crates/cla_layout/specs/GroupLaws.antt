-- Why an operator may work on tuples: what is asked of all rows can be asked of the dictionary, whichever way a group
-- is
-- kept.
use Rattle.std.specs.Prelude.{◌≡◌, ℕ, ℤ, pos, ◌<◌, ◌≤◌, ◌*ℤ◌, List, length, Bool, true, ◌↔◌}
use Rattle.cla_spec.specs.Numbers.{sum_to}
use Rattle.cla_num.specs.Places.{IsFirstPlace, NoneFails}
use Rattle.cla_layout.specs.Groups.{at, code_of, occurrences_of, first_row_of, gathered}

-- codes of n tuples, each of which has a row
pub record AreCodesOf (n : ℕ) (codes : List ℕ) : Type 0 where
  pub in_tuples : (i : ℕ) → i < length codes → code_of codes i < n
  pub used : (k : ℕ) → k < n → 0 < occurrences_of codes k

-- a value of each row's tuple, added up over the rows, is each tuple's value times its occurrences, added up over the
-- tuples
abbrev pub SumsRegroup : Type 0
SumsRegroup = (n : ℕ) (codes : List ℕ) (f : ℕ → ℤ) → AreCodesOf n codes →
    sum_to (λ i. f (code_of codes i)) (length codes) ≡ sum_to (λ k. pos (occurrences_of codes k) *ℤ f k) n

-- the same with a weight for each row: the weights of a tuple's rows are gathered
abbrev pub WeightedSumsRegroup : Type 0
WeightedSumsRegroup = (n : ℕ) (codes : List ℕ) (weights : List ℤ) (f : ℕ → ℤ) → AreCodesOf n codes →
    sum_to (λ i. at weights i *ℤ f (code_of codes i)) (length codes) ≡ sum_to (λ k. gathered codes weights k *ℤ f k) n

-- v is one of the first n values of f, and stands before all of them: the least one, or the greatest one, as `Before`
-- says
pub record IsExtreme (Before : ℤ → ℤ → Type 0) (f : ℕ → ℤ) (n : ℕ) (v : ℤ) : Type 0 where
  pub reached : (i : ℕ) × (i < n) × (f i ≡ v)
  pub before : (i : ℕ) → i < n → Before v (f i)

-- the least or the greatest value of a row's tuple is that of a tuple
abbrev pub ExtremesRegroup : Type 0
ExtremesRegroup = (n : ℕ) (codes : List ℕ) (before : ℤ → ℤ → Bool) (f : ℕ → ℤ) (v : ℤ) → AreCodesOf n codes →
    IsExtreme (λ x y. before x y ≡ true) (λ i. f (code_of codes i)) (length codes) v ↔ IsExtreme (λ x y. before x y
    ≡ true) f n v

-- The first cell that fails is the least of the cells in the first row of each tuple that fails. What fails is free,
-- and so
-- is the order of the places, as long as a later row of the same column has no earlier place: so this holds of tables
-- and
-- of their transposes.
abbrev pub FirstPlacesRegroup : Type 0
FirstPlacesRegroup = (n width : ℕ) (codes : List ℕ) (place : ℕ → ℕ → ℕ) (fails : ℕ → ℕ → Bool) (p : ℕ) →
    AreCodesOf n codes →
    ((i j c : ℕ) → i ≤ j → place i c ≤ place j c) →
    IsFirstPlace (length codes) width place (λ i c. fails (code_of codes i) c ≡ true) p ↔ IsFirstPlace n width
    (λ k c. place (first_row_of codes k) c) (λ k c. fails k c ≡ true) p

-- no cell fails where no tuple does
abbrev pub FaultsRegroup : Type 0
FaultsRegroup = (n width : ℕ) (codes : List ℕ) (fails : ℕ → ℕ → Bool) → AreCodesOf n codes →
    NoneFails (length codes) width (λ i c. fails (code_of codes i) c ≡ true) ↔ NoneFails n width (λ k c. fails k c
    ≡ true)
