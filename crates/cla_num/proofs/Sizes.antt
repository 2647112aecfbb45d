-- How large exact values can be. Bounds are natural numbers, on the size of an integer.
use Rattle.std.proofs.Common.{ℕ, ℤ, zero, ◌+◌, ◌*◌, ◌^◌, ◌<◌, ◌≤◌, ◌+ℤ◌, ◌*ℤ◌, arith}
use Rattle.std.proofs.Math.Nat.{pow-le-pow_right, mul-le-mul}
use Rattle.std.proofs.lemmas.Int.{ints, fits_signed_from_abs, unsigned_abs-mul}
use Rattle.std.specs.Int.{w128}
use Rattle.std.specs.Int.RustNames.{unsigned_abs, FitsSigned}
use Rattle.cla_spec.specs.Numbers.{InRange}
use Rattle.cla_num.specs.Bits.{IsSupported, value_bound}

-- a number
pub value_size : (bits : ℕ) (v : ℤ) → IsSupported bits → InRange bits v → unsigned_abs v ≤ value_bound
value_size bits v supported in_range =
    let two : zero < 2 = omega arith in
    omega (arith, in_range, pow-le-pow_right {n = 2} two {i = bits} {j = 47} supported.most)

-- a product
pub product_size : (a b : ℤ) (m n : ℕ) → unsigned_abs a ≤ m → unsigned_abs b ≤ n → unsigned_abs (a *ℤ b) ≤ m * n
product_size a b m n small few =
    omega (
      arith,
      unsigned_abs-mul a b,
      mul-le-mul {n₁ = unsigned_abs a} {m₁ = unsigned_abs b} {n₂ = m} {m₂ =
          n} small few,
    )

-- a sum of two
pub plus_size : (a b : ℤ) → unsigned_abs (a +ℤ b) ≤ unsigned_abs a + unsigned_abs b
plus_size a b = omega (arith, ints)

-- what fits 128 bits
pub fits_by_size : (z : ℤ) → unsigned_abs z < 2 ^ 127 → FitsSigned w128 z
fits_by_size z small = fits_signed_from_abs w128 z (omega (arith, small))
