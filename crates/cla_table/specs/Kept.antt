-- Sums that are kept by place.
use Rattle.std.specs.Prelude.{◌≡◌, ℕ, ℤ, pos, ◌<◌, List, [], ◌∷◌, ◌==◌, if◌then◌else◌}

-- the sum at a place, 0 where none is kept
abbrev pub sum_among : {N : Type 0} → (N → ℤ) → List (ℕ × N) → ℕ → ℤ
sum_among value [] place = pos 0
sum_among value (e ∷ es) place = if place == e.0 then value e.1 else sum_among value es place

-- one sum was kept, and no other changed
abbrev pub Keeps : {N : Type 0} → (N → ℤ) → List (ℕ × N) → List (ℕ × N) → ℕ → ℤ → Type 0
Keeps value old new place sum = (k : ℕ) → sum_among value new k ≡ (if k == place then sum else sum_among value old k)

-- the places are below this
abbrev pub AreWithin : {N : Type 0} → ℕ → List (ℕ × N) → Type 0
AreWithin n [] = Unit {0}
AreWithin n (e ∷ es) = (e.0 < n) × AreWithin n es
