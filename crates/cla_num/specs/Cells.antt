-- The exact values of operators on cells.
use Rattle.std.specs.Prelude.{◌≡◌, zero, suc, ℤ, pos, negsuc, ◌+ℤ◌, ◌-ℤ◌, ◌*ℤ◌, neg_ℤ, ◌<◌, ◌⊎◌, Bool, true, false}
use Rattle.std.specs.Prelude.{not, Option, Some, None, int_lt, int_le, unsigned_abs}
use Rattle.std.specs.Int.{int_div_euclid, int_rem_euclid}
use Rattle.std.specs.Ordering.{int_eq}
use Rattle.cla_num.specs.declared.cell_op.CellOp.{CellOp}
use Rattle.cla_num.specs.declared.cell_op.CellOp.TheVariants.{Add, Sub, Mul, Div, Mod, Lt, Le, Gt, Ge, Eq, Ne, Neg}

-- a div b and a mod b for b other than 0, rounded towards minus infinity
abbrev pub floor_div : ℤ → ℤ → ℤ
floor_div a (pos n) = int_div_euclid a (pos n)
floor_div a (negsuc n) = int_div_euclid (neg_ℤ a) (pos (suc n))

abbrev pub floor_mod : ℤ → ℤ → ℤ
floor_mod a (pos n) = int_rem_euclid a (pos n)
floor_mod a (negsuc n) = neg_ℤ (int_rem_euclid (neg_ℤ a) (pos (suc n)))

-- None where the divisor is 0
abbrev pub quotient : ℤ → ℤ → Option ℤ
quotient a (pos zero) = None
quotient a (pos (suc n)) = Some (floor_div a (pos (suc n)))
quotient a (negsuc n) = Some (floor_div a (negsuc n))

abbrev pub remainder : ℤ → ℤ → Option ℤ
remainder a (pos zero) = None
remainder a (pos (suc n)) = Some (floor_mod a (pos (suc n)))
remainder a (negsuc n) = Some (floor_mod a (negsuc n))

-- 1 for yes and 0 for no
abbrev pub one_if : Bool → ℤ
one_if true = pos 1
one_if false = pos 0

-- the exact value of `a op b`, None where it divides by zero; `Neg` leaves b out of account
abbrev pub cell_value : CellOp → ℤ → ℤ → Option ℤ
cell_value Add a b = Some (a +ℤ b)
cell_value Sub a b = Some (a -ℤ b)
cell_value Mul a b = Some (a *ℤ b)
cell_value Div a b = quotient a b
cell_value Mod a b = remainder a b
cell_value Lt a b = Some (one_if (int_lt a b))
cell_value Le a b = Some (one_if (int_le a b))
cell_value Gt a b = Some (one_if (int_lt b a))
cell_value Ge a b = Some (one_if (int_le b a))
cell_value Eq a b = Some (one_if (int_eq a b))
cell_value Ne a b = Some (one_if (not (int_eq a b)))
cell_value Neg a b = Some (neg_ℤ a)

-- a is b times the quotient and the remainder; this is smaller than b in size, and is 0 or has b's sign
pub record IsDivided (a b q r : ℤ) : Type 0 where
  pub whole : a ≡ b *ℤ q +ℤ r
  pub small : unsigned_abs r < unsigned_abs b
  pub sign : (r ≡ pos 0) ⊎ (int_lt r (pos 0) ≡ int_lt b (pos 0))

abbrev pub DividesByFloor : Type 0
DividesByFloor = (a b : ℤ) → ((b ≡ pos 0) → ⊥) → IsDivided a b (floor_div a b) (floor_mod a b)
