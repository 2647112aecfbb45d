-- The first place at which something fails.
use Rattle.std.specs.Prelude.{◌≡◌, ℕ, ◌<◌, ◌≤◌}

-- p is the least place of a cell that fails, of a result of this shape; the place of each cell is given
pub record IsFirstPlace (rows cols : ℕ) (place : ℕ → ℕ → ℕ) (Fails : ℕ → ℕ → Type 0) (p : ℕ) : Type 0 where
  pub reached : (i : ℕ) × (j : ℕ) × (i < rows) × (j < cols) × (place i j ≡ p) × Fails i j
  pub least : (i j : ℕ) → i < rows → j < cols → Fails i j → p ≤ place i j

-- no cell of a result of this shape fails
abbrev pub NoneFails : ℕ → ℕ → (ℕ → ℕ → Type 0) → Type 0
NoneFails rows cols Fails = (i j : ℕ) → i < rows → j < cols → Fails i j → ⊥
