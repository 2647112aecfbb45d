-- First places and extremes of results with rows and columns.
use Rattle.std.specs.Prelude.{◌≡◌, ℕ, ℤ, ◌<◌, ◌≤◌, List, [], ◌∷◌, length, Option, None, Some, nat_le, if◌then◌else◌}
use Rattle.cla_num.specs.Places.{IsFirstPlace, NoneFails}
use Rattle.cla_layout.specs.Groups.{value_of}
use Rattle.cla_layout.specs.Layouts.{LayoutPart, column_at}

-- the first place at which something fails in a result of this shape, if anything does
abbrev pub IsFirstOf : ℕ → ℕ → (ℕ → ℕ → ℕ) → (ℕ → ℕ → Type 0) → Option ℕ → Type 0
IsFirstOf rows cols place Fails None = NoneFails rows cols Fails
IsFirstOf rows cols place Fails (Some p) = IsFirstPlace rows cols place Fails p

-- the lesser of two places, of which either may be missing
abbrev pub lesser : Option ℕ → Option ℕ → Option ℕ
lesser None other = other
lesser (Some p) None = Some p
lesser (Some p) (Some q) = if nat_le p q then Some p else Some q

-- the least of places, of which each may be missing
abbrev pub least_of : List (Option ℕ) → Option ℕ
least_of [] = None
least_of (first ∷ firsts) = lesser first (least_of firsts)

-- what is wrong first in a result of this shape: no place of anything wrong is before p
pub record IsFaultAt {W : Type 0} (rows cols : ℕ) (place : ℕ → ℕ → W → ℕ) (fault : ℕ → ℕ → Option W) (p : ℕ)
    (what : W) : Type 0 where
  pub reached : (i : ℕ) × (j : ℕ) × (i < rows) × (j < cols) × (place i j what ≡ p) × (fault i j ≡ Some what)
  pub least : (i j : ℕ) (w : W) → i < rows → j < cols → fault i j ≡ Some w → p ≤ place i j w

-- the first fault of a result, with its place, if it has a fault; the place may depend on what is wrong there
abbrev pub IsFirstFault : {W : Type 0} → ℕ → ℕ → (ℕ → ℕ → W → ℕ) → (ℕ → ℕ → Option W) → Option (ℕ × W) → Type 0
IsFirstFault rows cols place fault None = (i j : ℕ) → i < rows → j < cols → fault i j ≡ None
IsFirstFault rows cols place fault (Some first) = IsFaultAt rows cols place fault first.0 first.1

-- the first of two faults, and of many
abbrev pub earlier_fault : {W : Type 0} → Option (ℕ × W) → Option (ℕ × W) → Option (ℕ × W)
earlier_fault None other = other
earlier_fault (Some first) None = Some first
earlier_fault (Some first) (Some other) = if nat_le first.0 other.0 then Some first else Some other

abbrev pub earliest_fault : {W : Type 0} → List (Option (ℕ × W)) → Option (ℕ × W)
earliest_fault [] = None
earliest_fault (first ∷ firsts) = earlier_fault first (earliest_fault firsts)

-- v is an entry of a result of this shape, and stands before all of them: the least one, or the greatest, as `Before`
-- says
pub record IsExtremeEntry (Before : ℤ → ℤ → Type 0) (rows cols : ℕ) (entry : ℕ → ℕ → ℤ) (v : ℤ) : Type 0 where
  pub reached : (i : ℕ) × (j : ℕ) × (i < rows) × (j < cols) × (entry i j ≡ v)
  pub before : (i j : ℕ) → i < rows → j < cols → Before v (entry i j)

-- a tuple of the part has this value, of its column and entry
abbrev pub IsReached : (ℕ → ℤ → ℤ) → LayoutPart → ℤ → Type 0
IsReached f part v = (k : ℕ) × (c : ℕ) × (k < length part.tuples) × (c < length part.columns)
    × (f (column_at part.columns c) (value_of part.tuples k c) ≡ v)
