-- Fields whose number is tested by two bounds.
use Rattle.std.specs.Prelude.{ℕ, Bool, ◌&&◌, nat_le}

-- from the lowest to the highest
abbrev pub within : ℕ → ℕ → ℕ → Bool
within low high n = nat_le low n && nat_le n high
