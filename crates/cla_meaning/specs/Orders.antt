-- What stands before in an order of integers, and which of two is chosen.
use Rattle.std.specs.Prelude.{◌≡◌, ℤ, ◌≤ℤ◌, ◌⊎◌}
use Rattle.std.specs.Int.{int_min, int_max}

-- the first is the lesser, or the greater, or they are equal
abbrev pub IsLesser : ℤ → ℤ → Type 0
IsLesser v w = v ≤ℤ w

abbrev pub IsGreater : ℤ → ℤ → Type 0
IsGreater v w = w ≤ℤ v

-- one of two integers is chosen, and stands before both
pub record IsChoice (Before : ℤ → ℤ → Type 0) (choice : ℤ → ℤ → ℤ) : Type 0 where
  pub either : (a b : ℤ) → (choice a b ≡ a) ⊎ (choice a b ≡ b)
  pub left : (a b : ℤ) → Before (choice a b) a
  pub right : (a b : ℤ) → Before (choice a b) b
  pub same : (a : ℤ) → Before a a
  pub onwards : (a b c : ℤ) → Before a b → Before b c → Before a c

-- the lesser of two, and the greater
pub record OrdersChoose : Type 0 where
  pub lesser : IsChoice IsLesser int_min
  pub greater : IsChoice IsGreater int_max
