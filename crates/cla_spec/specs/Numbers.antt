-- Integers: which are in range, and their decimal text.
use Rattle.std.specs.Prelude.{ℕ, ℤ, pos, ◌^◌, ◌<◌, ◌+ℤ◌, List, Bool, nat_lt}
use Rattle.std.specs.Int.RustNames.{unsigned_abs}
use Rattle.std.specs.Fmt.{signed_decimal}
use Rattle.std.proofs.Common.{zero, suc}

-- an integer whose size is below 2^bits
abbrev pub InRange : ℕ → ℤ → Type 0
InRange bits v = unsigned_abs v < 2 ^ bits

abbrev pub in_range : ℕ → ℤ → Bool
in_range bits v = nat_lt (unsigned_abs v) (2 ^ bits)

-- the decimal text of an integer: no leading zeros, no plus sign, and zero is `0`
abbrev pub decimal_of : ℤ → List ℕ
decimal_of v = signed_decimal v

-- f 0 + f 1 + .. + f (n - 1)
abbrev pub sum_to : (ℕ → ℤ) → ℕ → ℤ
sum_to f zero = pos 0
sum_to f (suc n) = sum_to f n +ℤ f n
