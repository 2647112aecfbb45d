-- Numbers and values as bytes, the lowest first.
use Rattle.std.specs.Prelude.{ℕ, ℤ, zero, suc, pos, negsuc, ◌+◌, ◌-◌, ◌*◌, ◌/◌, ◌%◌, ◌<◌, ◌≤◌, List, [], ◌∷◌, nat_lt}
use Rattle.std.specs.Prelude.{if◌then◌else◌}

-- the number whose bytes these are
abbrev pub number_of : List ℕ → ℕ
number_of [] = 0
number_of (b ∷ bs) = b + 256 * number_of bs

-- the k low bytes of a number
abbrev pub bytes_of : ℕ → ℕ → List ℕ
bytes_of zero n = []
bytes_of (suc k) n = n % 256 ∷ bytes_of k (n / 256)

-- one more than the greatest number of k bytes
abbrev pub past : ℕ → ℕ
past zero = 1
past (suc k) = 256 * past k

-- a number of k bytes as a value in two's complement, and back
abbrev pub signed_of : ℕ → ℕ → ℤ
signed_of k n = if nat_lt (2 * n) (past k) then pos n else negsuc (past k - suc n)

abbrev pub unsigned_of : ℕ → ℤ → ℕ
unsigned_of k (pos n) = n
unsigned_of k (negsuc n) = past k - suc n

-- a value that k bytes can hold
abbrev pub Holds : ℕ → ℤ → Type 0
Holds k (pos n) = 2 * n < past k
Holds k (negsuc n) = 2 * suc n ≤ past k

-- the k bytes of a value
abbrev pub value_bytes : ℕ → ℤ → List ℕ
value_bytes k v = bytes_of k (unsigned_of k v)
