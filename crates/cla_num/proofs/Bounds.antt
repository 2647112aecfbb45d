-- Bounds of numbers.
use Rattle.std.proofs.Common.{ℕ, ℤ, zero, ◌^◌, ◌<◌, ◌≤◌, arith}
use Rattle.std.proofs.Math.Nat.{pow-le-pow_right}
use Rattle.std.specs.Int.RustNames.{unsigned_abs}
use Rattle.cla_spec.specs.Numbers.{InRange}
use Rattle.cla_num.specs.Bits.{IsSupported}

-- a number in range fits 64 bits
pub in_64_bits : (bits : ℕ) (v : ℤ) → IsSupported bits → InRange bits v → unsigned_abs v < 2 ^ 63
in_64_bits bits v supported in_range =
    let few : bits ≤ 63 = omega arith in
    let two : zero < 2 = omega arith in
    omega (arith, in_range, pow-le-pow_right {n = 2} two {i = bits} {j = 63} few)
