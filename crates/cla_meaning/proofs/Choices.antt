-- The lesser and the greater of two.
use Rattle.std.proofs.Common.{◌≡◌, ◌⊎◌, ℤ, refl, arith, inl, inr, int_lt}
use Rattle.std.proofs.lemmas.Bool.{cases_Bool}
use Rattle.std.proofs.lemmas.Int.{ints, clamps}
use Rattle.std.specs.Int.{int_min, int_max}
use Rattle.cla_meaning.specs.Orders.{IsLesser, IsGreater, IsChoice}

either_min : (a b : ℤ) → (int_min a b ≡ a) ⊎ (int_min a b ≡ b)
either_min a b = elim (cases_Bool (int_lt b a)) [
  | inl less ↦ inr (rw less refl)
  | inr more ↦ inl (rw more refl)
]

either_max : (a b : ℤ) → (int_max a b ≡ a) ⊎ (int_max a b ≡ b)
either_max a b = elim (cases_Bool (int_lt b a)) [
  | inl less ↦ inl (rw less refl)
  | inr more ↦ inr (rw more refl)
]

pub lesser_chosen : IsChoice IsLesser int_min
lesser_chosen = record {
  either = either_min;
  left = λ a b. omega (arith, ints, clamps);
  right = λ a b. omega (arith, ints, clamps);
  same = λ a. omega (arith, ints);
  onwards = λ a b c ab bc. omega (arith, ints, ab, bc);
}

pub greater_chosen : IsChoice IsGreater int_max
greater_chosen = record {
  either = either_max;
  left = λ a b. omega (arith, ints, clamps);
  right = λ a b. omega (arith, ints, clamps);
  same = λ a. omega (arith, ints);
  onwards = λ a b c ab bc. omega (arith, ints, ab, bc);
}
