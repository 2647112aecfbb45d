-- Numbers in bytes.
use Rattle.std.proofs.Common.{◌≡◌, ℕ, zero, suc, ◌/◌, ◌^◌, ◌<◌, ◌≤◌, take, get_or, refl, ap, arith}
use Rattle.std.specs.Int.{w32, to_le_bytes}
use Rattle.std.proofs.lemmas.Nat.{le_bytes_4}
use Rattle.cla_spec.specs.Bytes.{bytes_of}

are_small : (k n i : ℕ) → get_or (bytes_of k n) i 0 < 256
are_small zero n i = omega arith
are_small (suc k) n zero = omega arith
are_small (suc k) n (suc i) = are_small k (n / 256) i

pub four_bytes : (n : ℕ) → n < 2 ^ 32 → to_le_bytes w32 n ≡ bytes_of 4 n
four_bytes n small = le_bytes_4 (bytes_of 4 n) n refl (are_small 4 n) (omega arith)

-- the first k bytes of four
pub low_bytes : (k n : ℕ) → k ≤ 4 → n < 2 ^ 32 → take k (to_le_bytes w32 n) ≡ bytes_of k n
low_bytes zero n few small = refl
low_bytes (suc zero) n few small = ap (take 1) (four_bytes n small)
low_bytes (suc (suc zero)) n few small = ap (take 2) (four_bytes n small)
low_bytes (suc (suc (suc zero))) n few small = ap (take 3) (four_bytes n small)
low_bytes (suc (suc (suc (suc zero)))) n few small = ap (take 4) (four_bytes n small)
low_bytes (suc (suc (suc (suc (suc k))))) n few small = absurd (omega (arith, few))
